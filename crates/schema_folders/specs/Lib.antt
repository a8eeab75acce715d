pub mod Naming
pub mod Indexed
pub mod Statements
pub mod Texts
pub mod Folder
pub mod Run
