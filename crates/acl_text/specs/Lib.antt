pub mod Acls
pub mod Examples
pub mod Spells
