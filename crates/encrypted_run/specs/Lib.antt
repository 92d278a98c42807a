pub mod Refusals
pub mod Run
pub mod Rotations
pub mod Rows
pub mod Private
