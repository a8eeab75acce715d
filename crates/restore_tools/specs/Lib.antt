pub mod Due
pub mod Standing
pub use Rattle.restore_folders.specs.Works
pub use Rattle.restore_folders.specs.Written
pub use Rattle.restore_folders.specs.Writing
