pub mod Held
pub mod Holders
pub mod Stmts
pub mod Seen
pub mod Examples
