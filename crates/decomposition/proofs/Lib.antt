pub mod Digits
pub mod Signed
pub mod Polys
pub mod Checks
pub mod Powers
pub mod Flat
pub mod Examples
pub mod Determined
