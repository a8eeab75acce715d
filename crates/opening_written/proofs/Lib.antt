pub mod Reading
pub use Rattle.opening_sound.proofs.Leaving
pub use Rattle.opening_sound.proofs.Made
