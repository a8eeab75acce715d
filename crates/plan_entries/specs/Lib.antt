pub mod Earlier
pub mod Plans
pub mod Texts
pub mod Examples
