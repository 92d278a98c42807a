pub mod Size
pub mod Leader
pub mod Report
pub mod Merge
pub mod Words
