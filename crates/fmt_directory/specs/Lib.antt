pub mod Directories
pub mod Answers
