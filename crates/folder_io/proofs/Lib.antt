pub mod Steps
pub mod Dues
pub mod TableOrder
pub mod Standing
pub mod Lengths
pub mod SameRows
pub mod Rows
pub mod Examples
