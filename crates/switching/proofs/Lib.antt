pub mod Checks
pub mod Fields
pub mod Rows
pub mod FormerKeys
pub mod Sums
pub mod Phase
pub mod Examples
pub mod Determined
