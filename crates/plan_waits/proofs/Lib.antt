pub mod Listing
pub mod Meeting
mod NoKeys
