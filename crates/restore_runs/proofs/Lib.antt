pub mod EntryLines
pub mod Texts
pub mod Notes
pub mod Told
pub mod Own
pub mod OneWorker
pub mod FirstStop
