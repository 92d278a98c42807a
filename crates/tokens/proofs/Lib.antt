pub mod Steps
pub mod Names
pub mod Laws
pub mod Reading
pub mod ReadBack
pub mod Printed
pub mod Examples
pub mod Determined
