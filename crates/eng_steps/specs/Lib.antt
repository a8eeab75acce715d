pub mod Outcomes
pub mod Kinds
