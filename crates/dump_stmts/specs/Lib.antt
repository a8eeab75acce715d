pub mod Paths
pub mod Types
pub mod Tables
pub mod Views
pub mod Sequences
pub mod Keys
pub mod Stmts
pub mod Drops
