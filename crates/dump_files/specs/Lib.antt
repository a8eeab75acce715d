pub mod Spelled
pub mod Readings
pub mod Stops
pub mod Needed
pub mod Outlets
pub mod Examples
pub mod Own
