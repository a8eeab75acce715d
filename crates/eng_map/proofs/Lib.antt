pub mod Backwards
pub mod Listing
pub mod Picking
pub mod Scans
