pub mod Fit
pub use Rattle.opening_sound.specs.Export
pub use Rattle.opening_sound.specs.Left
