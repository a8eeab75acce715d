pub mod AllTokens
pub mod Wholes
pub mod PartLaws
pub mod Distincts
