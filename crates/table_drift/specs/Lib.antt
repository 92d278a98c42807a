pub mod Lookup
pub mod Refusals
pub mod Private
