pub mod Level
pub mod Linear
pub mod Key
pub mod Plain
pub mod Encrypt
pub mod Decrypt
pub mod Private
