pub mod Leaving
pub mod Maps
