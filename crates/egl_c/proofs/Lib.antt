pub mod Examples
pub mod Determined
pub mod DeterminedRuns
pub mod Contracts
