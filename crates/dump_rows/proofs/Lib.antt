mod Found
mod Ordered
pub mod Seen
