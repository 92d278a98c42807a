pub mod Sums
pub mod Tables
pub mod Checks
pub mod Uses
pub mod Determined
