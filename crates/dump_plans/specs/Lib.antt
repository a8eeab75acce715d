pub mod Choosing
pub mod Outcomes
pub mod Plans
