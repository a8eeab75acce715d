pub mod CommaLemmas
pub mod LineLemmas
pub mod Spelled
