pub mod ExtraLemmas
pub mod FitLemmas
