pub mod Fields
pub mod Clear
