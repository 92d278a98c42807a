pub mod Extract
pub mod Encrypt
pub mod Decrypt
pub mod Private
