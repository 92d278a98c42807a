pub mod Polynomials
pub mod Whole
pub mod Circuit
pub mod PrivateWords
pub mod PrivateCircuit
pub mod PrivateShort
