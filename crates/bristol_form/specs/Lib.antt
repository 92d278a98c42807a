pub mod Says
pub mod Form
pub mod Valid
pub mod Meaning
pub mod Private
