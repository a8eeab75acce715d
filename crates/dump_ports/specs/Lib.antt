pub mod Tree
pub mod Faults
pub mod Whole
pub mod Moment
pub mod Memory
