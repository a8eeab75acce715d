pub mod TocLaws
pub mod Written
