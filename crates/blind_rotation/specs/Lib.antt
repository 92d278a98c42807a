pub mod Blind
pub mod Drift
pub mod Refusals
pub mod Private
