pub mod Names
pub mod Saved
pub mod Rows
pub mod Parts
pub mod Restoring
