pub mod Trims
pub mod Lengths
pub mod Lookups
mod FewDigits
