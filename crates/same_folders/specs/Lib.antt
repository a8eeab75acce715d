pub mod CutOff
pub mod Streams
