pub mod Turns
pub mod Measures
