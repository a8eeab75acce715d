pub mod Constraints
pub mod Wholes
