pub mod Among
pub mod Roles
pub mod Paths
pub mod Grants
