pub mod Sample
pub mod Private
