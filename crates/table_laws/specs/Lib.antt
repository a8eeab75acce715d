pub mod Small
pub mod Clusters
pub mod Objects
pub mod Types
pub mod Columns
pub mod OwnRows
pub mod Constraints
pub mod Whole
