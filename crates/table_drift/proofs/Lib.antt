pub mod Margins
pub mod Meaning
pub mod Checks
pub mod Calls
pub mod Told
pub mod Examples
pub mod Determined
pub mod Contracts
