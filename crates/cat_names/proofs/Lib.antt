pub mod Steps
pub mod Mapped
pub mod Places
pub mod Items
pub mod FirstFaults
pub mod Counts
