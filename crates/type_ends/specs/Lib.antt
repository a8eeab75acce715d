pub mod Bases
pub mod Beside
pub mod Ends
pub mod Enums
pub mod Examples
pub mod Jumps
pub mod Steps
