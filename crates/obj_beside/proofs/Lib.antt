pub mod FirstsKept
pub mod Rows
mod Grouped
