pub mod Passes
pub mod Checks
pub mod Owning
pub use Rattle.object_export.proofs.Listing
pub use Rattle.object_export.proofs.Notes
pub use Rattle.object_export.proofs.Related
pub use Rattle.object_export.proofs.Standing
