pub mod Behind
pub mod Books
pub mod Scans
