pub mod Slots
pub mod Ids
