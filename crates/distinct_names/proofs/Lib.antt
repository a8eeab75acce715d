pub mod Distincts
