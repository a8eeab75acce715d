pub mod Foreign
pub mod ListRun
pub mod Placed
pub mod Skipping
pub mod Booleans
pub mod Wider
