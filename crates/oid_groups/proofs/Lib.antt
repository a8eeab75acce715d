mod ByNumber
mod Found
mod OneOrder
mod Places
mod Placing
pub mod Rows
