pub mod Texts
pub mod Marks
pub mod Pieces
pub mod Escapes
pub mod Rows
pub mod Reading
pub mod Lines
pub mod Examples
