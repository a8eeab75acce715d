pub mod Answers
pub mod Folders
pub mod Beyond
pub mod Examples
