pub mod Thin
pub mod Making
pub mod Views
pub mod Readings
pub mod Determined
