pub mod Copied
pub mod Loaded
