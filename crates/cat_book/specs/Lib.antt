pub mod Rules
pub mod Sets
pub mod Seen
pub mod Meets
pub mod Chains
pub mod Paths
pub mod Leads
pub mod Beside
