pub mod Moving
pub mod Tables
pub mod Kept
pub mod Reading
pub use Rattle.named_objects.proofs.Formed
pub use Rattle.named_objects.proofs.Whole
