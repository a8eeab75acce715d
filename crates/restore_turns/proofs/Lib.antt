pub mod Finding
pub mod Lessening
pub mod Histories
pub mod Taking
