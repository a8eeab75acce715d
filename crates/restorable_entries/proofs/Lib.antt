pub mod Running
pub mod Session
pub mod Objects
pub mod Ready
pub mod Archived
pub mod Depending
