pub mod Checks
pub mod Entries
pub mod Chain
pub mod Examples
pub mod Determined
pub mod Contracts
