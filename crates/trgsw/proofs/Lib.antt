pub mod Sums
pub mod Checks
pub mod Phase
pub mod Determined
