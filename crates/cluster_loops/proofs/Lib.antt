pub mod EntryLoops
pub mod Owned
