pub mod Growing
pub mod Keeping
pub use Rattle.entry_ids.specs.Ids
pub use Rattle.sound_loads.specs.Entries
pub use Rattle.sound_loads.specs.Relations
pub use Rattle.sound_loads.specs.Texts
pub use Rattle.sound_loads.specs.Grammar
