pub mod Chains
pub mod Entries
pub mod Examples
pub mod Order
pub mod Places
pub mod Serial
