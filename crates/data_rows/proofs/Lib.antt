pub mod LineLemmas
pub mod RowLemmas
pub mod SameLemmas
pub mod LawLemmas
