pub mod Quoting
pub mod SequenceWords
pub mod Classes
