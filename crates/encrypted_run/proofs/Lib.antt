pub mod Checks
pub mod Operands
pub mod Wires
pub mod Unread
pub mod Work
pub mod Laws
pub mod Examples
pub mod Determined
