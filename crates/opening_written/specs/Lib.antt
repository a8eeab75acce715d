pub use Rattle.opening_sound.specs.Export
pub use Rattle.opening_sound.specs.Left
pub use Rattle.opening_sound.specs.Keeping
pub use Rattle.reordered_rows.specs.Reading
