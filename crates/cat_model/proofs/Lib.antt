pub mod KeyOrder
pub mod MapsSeen
pub mod MarkLaws
pub mod Parts
pub mod RowsSpelled
