pub mod Heads
pub mod Places
pub use Rattle.named_objects.specs.Relations
pub use Rattle.named_objects.specs.Types
