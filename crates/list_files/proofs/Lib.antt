pub mod Books
pub mod Splits
pub mod Numbers
pub mod Saying
pub mod Standing
pub mod Dates
