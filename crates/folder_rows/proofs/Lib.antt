pub mod Steps
pub mod Holds
