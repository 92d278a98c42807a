pub mod Tokens
pub mod Back
pub mod Private
