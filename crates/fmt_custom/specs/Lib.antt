pub mod Blocks
pub mod Customs
pub mod Indexes
pub mod Readers
pub mod Writing
pub mod Stored
pub mod Worked
