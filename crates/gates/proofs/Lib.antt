pub mod Checks
pub mod Chain
pub mod Uses
pub mod Determined
