pub mod Numbers
pub mod Letters
pub mod Adding
pub mod FirstFaults
pub mod Saying
pub mod Completing
pub mod Keeping
