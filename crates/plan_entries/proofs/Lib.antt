pub mod Behind
pub mod Growing
pub mod Lengths
mod Rows
