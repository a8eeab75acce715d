pub mod Verdicts
pub mod Differences
pub mod Examples
