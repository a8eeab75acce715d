pub mod PieceLemmas
pub mod FormLemmas
