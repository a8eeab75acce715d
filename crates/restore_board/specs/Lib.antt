pub mod Standing
pub mod Answers
pub mod Notes
pub mod Rooms
pub mod Kept
pub mod Ran
