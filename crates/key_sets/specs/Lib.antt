pub mod Numbers
pub mod Holding
