pub mod Making
pub mod Things
