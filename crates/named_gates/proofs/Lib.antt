pub mod Chain
pub mod Checks
pub mod Uses
pub mod Determined
