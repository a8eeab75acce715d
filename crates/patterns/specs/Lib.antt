pub mod Marks
pub mod Parts
pub mod Reading
pub mod Matching
pub mod Left
pub mod Quoted
pub mod Examples
