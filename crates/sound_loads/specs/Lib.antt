pub mod Origins
pub mod InOrder
pub mod Reads
pub use Rattle.cat_naming.specs.Entries
pub use Rattle.cat_naming.specs.Relations
pub use Rattle.cat_naming.specs.Texts
pub use Rattle.well_formed.specs.Formed
pub use Rattle.sound_texts.specs.Grammar
