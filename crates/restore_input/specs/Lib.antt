pub mod Inputs
pub mod Answers
pub mod Steps
pub mod Laws
