pub mod Checks
pub mod Pairs
pub mod Uses
pub mod Determined
pub mod Examples
