pub mod EntryLaws
pub mod HeadLaws
pub mod Fitting
