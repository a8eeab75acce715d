pub mod Rightful
