pub mod Kinds
pub mod Choices
pub mod Asking
pub mod Books
pub mod Examples
