pub mod Files
pub mod Folders
pub mod Exports
pub mod Examples
