pub mod Stopping
pub mod Writing
pub use Rattle.opening_written.specs.Export
