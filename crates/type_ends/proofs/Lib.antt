pub mod LabelsAt
pub mod Numbered
pub mod Reached
pub mod Trails
