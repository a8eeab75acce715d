pub mod Lists
pub mod Drafts
pub mod Entries
