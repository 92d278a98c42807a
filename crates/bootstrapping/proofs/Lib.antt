pub mod Parts
pub mod Checks
pub mod Errors
pub mod Determined
