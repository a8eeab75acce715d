mod Flags
mod Holdings
mod Entries
