pub mod Having
mod Numbering
mod Drawing
mod Labels
pub use Rattle.named_objects.proofs.Found
pub use Rattle.named_objects.proofs.Lookups
pub use Rattle.named_objects.proofs.Columns
pub use Rattle.named_objects.proofs.Counting
pub use Rattle.named_objects.proofs.Formed
pub use Rattle.named_objects.proofs.Led
pub use Rattle.named_objects.proofs.Ordered
pub use Rattle.named_objects.proofs.Whole
