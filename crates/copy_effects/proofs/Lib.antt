pub mod Filled
mod Tried
mod Preparing
