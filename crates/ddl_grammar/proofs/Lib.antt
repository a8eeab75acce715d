pub mod Common
pub mod Meanings
pub mod Spelled
