pub mod Kind
pub mod Weights
pub mod Sum
