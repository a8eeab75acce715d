pub mod Adding
pub mod Oids
pub mod Owning
pub use Rattle.object_export.specs.Parts
