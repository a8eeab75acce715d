pub mod Causes
pub mod KeyCauses
pub mod Orders
pub mod Plans
pub mod Tried
