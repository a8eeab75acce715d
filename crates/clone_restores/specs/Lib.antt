pub mod Lines
pub mod Due
pub mod Seen
pub mod Standing
pub use Rattle.script_runs.specs.Writing
