pub mod Restores
pub mod Entries
pub use Rattle.opening_sound.proofs.Made
