pub mod Dues
pub mod Lining
