pub mod Given
pub mod Steps
pub mod Words
pub mod Determined
pub mod Contracts
pub mod Examples
