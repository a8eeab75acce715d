pub mod Kept
pub mod Spelled
pub mod Exported
pub mod Written
