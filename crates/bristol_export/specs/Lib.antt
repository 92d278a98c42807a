pub mod Steps
pub mod Text
pub mod Export
pub mod Private
