pub mod Saying
pub mod Apart
