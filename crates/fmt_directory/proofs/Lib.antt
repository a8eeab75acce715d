pub mod Directories
pub mod Written
