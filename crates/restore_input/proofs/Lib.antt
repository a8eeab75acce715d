pub mod Dues
pub mod RowsRead
pub mod Alike
