mod Bytes
mod Entries
mod Flags
mod Holdings
pub mod Keys
mod Lists
