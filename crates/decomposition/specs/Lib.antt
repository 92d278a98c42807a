pub mod Digit
pub mod Pair
