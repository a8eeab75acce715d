pub mod Ids
pub mod Entries
pub use Rattle.named_objects.specs.Oids
pub use Rattle.named_objects.specs.Standing
pub use Rattle.named_objects.specs.Views
pub use Rattle.named_objects.specs.Constraints
pub use Rattle.named_objects.specs.Relations
pub use Rattle.named_objects.specs.Types
