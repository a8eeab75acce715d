pub mod Lines
pub mod Owners
pub mod Parts
pub mod Script
pub mod Examples
