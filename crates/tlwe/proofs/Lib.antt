pub mod Checks
pub mod Refusals
pub mod Sums
pub mod Messages
pub mod Phases
pub mod Inverse
pub mod Examples
pub mod Determined
