pub mod Due
pub mod Runs
pub mod Halves
