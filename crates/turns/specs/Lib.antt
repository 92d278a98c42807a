pub mod Front
pub mod Private
