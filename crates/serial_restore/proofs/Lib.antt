pub mod Lists
pub mod Parents
pub mod Runs
pub mod Stops
