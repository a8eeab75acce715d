pub mod Ends
pub mod Counting
pub mod Steps
pub mod ReadBack
