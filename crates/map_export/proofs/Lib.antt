pub mod Making
pub mod Loops
pub mod Entries
pub mod Named
pub mod Cluster
