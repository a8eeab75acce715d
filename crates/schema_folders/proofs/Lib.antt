pub mod Named
pub mod Saved
pub mod Distinct
pub mod Standing
pub mod Growing
