pub mod Made
pub mod Needs
pub mod Meanings
pub mod Work
pub mod Ciphers
pub mod Checks
pub mod Determined
