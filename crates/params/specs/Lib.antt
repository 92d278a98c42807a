pub mod Refusal
pub mod Ranges
pub mod Sizes
pub mod Published
pub mod Private
