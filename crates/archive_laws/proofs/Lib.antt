pub mod Bare
pub mod Wanted
pub mod Scripts
pub mod Fitting
pub mod Restoring
