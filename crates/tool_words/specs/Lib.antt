pub mod Status
pub mod Answers
pub mod Outcomes
pub mod Words
pub mod Messages
pub mod Lines
