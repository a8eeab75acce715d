pub mod Apart
pub mod Seen
pub mod Given
mod Steps
