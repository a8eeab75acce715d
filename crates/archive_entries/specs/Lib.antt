pub mod Extras
pub mod Fits
