pub mod Ways
pub mod Refusals
pub mod Ciphers
pub mod Private
