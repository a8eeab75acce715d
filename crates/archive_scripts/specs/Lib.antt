pub mod Scripts
pub mod Directories
pub mod Answers
