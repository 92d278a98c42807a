pub mod Refusals
pub mod Private
pub mod Gate
