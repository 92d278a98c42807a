pub mod External
pub mod Errors
pub mod Refusals
pub mod Private
