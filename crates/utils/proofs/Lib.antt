pub mod Exact
pub mod Cut
pub mod Laws
pub mod Unique
pub mod Determined
