pub mod Import
pub mod Private
