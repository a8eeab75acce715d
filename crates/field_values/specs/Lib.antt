pub mod Columns
pub mod Labels
pub mod Places
pub mod Seen
