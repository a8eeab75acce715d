pub mod Lines
pub mod Edits
pub mod Books
pub mod Lists
pub mod Examples
