pub mod ByPlaces
pub mod Known
pub mod Nulls
