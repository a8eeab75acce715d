pub mod Dumps
pub mod Stops
