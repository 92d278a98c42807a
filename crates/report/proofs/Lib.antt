pub mod Digits
pub mod Spliced
pub mod Pieces
pub mod Texts
pub mod Lengths
pub mod Examples
pub mod Determined
