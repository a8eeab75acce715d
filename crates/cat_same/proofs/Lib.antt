mod Differences
mod Lookups
mod Ahead
