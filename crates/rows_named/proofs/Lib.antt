pub mod Others
pub mod Found
