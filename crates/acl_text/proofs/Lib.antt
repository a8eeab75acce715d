pub mod ReadingLemmas
pub mod SpellingLemmas
pub mod CanBeWritten
pub mod Utf8Lemmas
pub mod ElementLemmas
pub mod ReadIsSpelled
pub mod SpelledIsRead
pub mod Exact
