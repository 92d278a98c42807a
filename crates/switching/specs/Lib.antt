pub mod Switched
pub mod Drift
pub mod Private
