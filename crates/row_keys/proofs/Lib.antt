pub mod ByPlaces
pub mod KnownKeys
pub mod Rows
