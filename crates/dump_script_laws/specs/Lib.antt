pub mod Statements
pub mod Behind
