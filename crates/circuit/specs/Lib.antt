pub mod Form
pub mod Valid
pub mod Plain
pub mod Told
pub mod Private
