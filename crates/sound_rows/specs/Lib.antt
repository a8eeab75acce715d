pub mod Rows
pub mod Granted
