pub mod Examples
pub mod Groups
pub mod Orders
pub mod Sorted
