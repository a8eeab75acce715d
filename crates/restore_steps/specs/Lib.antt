pub mod Statements
pub mod Faults
pub mod Examples
