pub mod Refusals
pub mod Column
pub mod Private
