pub mod Second
pub mod Joining
pub mod Left
pub mod Stopping
pub mod Telling
pub mod Calls
