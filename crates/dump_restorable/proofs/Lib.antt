pub mod Taken
pub mod Dumped
