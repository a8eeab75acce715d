pub mod Reading
pub use Rattle.named_objects.specs.Standing
pub use Rattle.saved_folders.specs.Exports
pub use Rattle.saved_folders.specs.Folders
