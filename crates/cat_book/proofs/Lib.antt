pub mod Counts
pub mod ChainEnds
pub mod Walks
pub mod Keyed
pub mod Placed
pub mod Behind
pub mod Meeting
