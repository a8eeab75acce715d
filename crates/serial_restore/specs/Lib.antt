pub mod Blocked
pub mod Ways
