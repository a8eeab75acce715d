pub mod Texts
pub mod Columns
pub mod Widths
pub mod RowTexts
pub mod Whole
