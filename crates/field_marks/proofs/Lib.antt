pub mod Ends
pub mod Following
pub mod Lanes
pub mod Plain
