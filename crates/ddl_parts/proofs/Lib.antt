pub mod Common
pub mod Basics
pub mod Slices
