pub mod Faults
pub mod Entries
pub mod Groups
pub mod Heads
pub mod Writable
pub mod Values
