pub mod PieceLemmas
pub mod PackingLemmas
pub mod BlockLemmas
pub mod GrowingLemmas
pub mod PlaceLemmas
