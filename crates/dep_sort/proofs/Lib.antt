mod Depending
mod Distinct
mod Dues
pub mod InOrder
mod Keeping
mod Left
mod Looping
mod Making
mod Mates
mod Numbered
mod Picking
mod Ranks
mod Sorting
mod Taking
