mod Shown
pub mod Lines
mod Session
mod Entries
