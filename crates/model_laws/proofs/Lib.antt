pub mod Changes
pub mod CopyStays
pub mod Entries
pub mod Exchange
pub mod Listed
pub mod Stays
pub mod Steps
pub mod Within
