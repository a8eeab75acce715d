pub mod Listing
pub mod Standing
pub mod Related
pub mod Notes
