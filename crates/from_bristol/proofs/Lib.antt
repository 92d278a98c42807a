pub mod Room
mod Longer
