pub mod Meeting
pub mod Trying
