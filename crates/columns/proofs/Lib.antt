pub mod Checks
pub mod Pairs
pub mod Laws
pub mod Demand
pub mod Examples
pub mod Determined
