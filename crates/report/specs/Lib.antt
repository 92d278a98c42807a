pub mod Decimal
pub mod Private
pub mod Text
