pub mod Lists
pub mod Rows
pub mod Dummies
pub mod Objects
