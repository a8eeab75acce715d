pub mod Works
pub mod Seen
pub mod Written
pub use Rattle.script_runs.specs.Writing
pub use Rattle.openings.specs.Openings
pub use Rattle.restore_runs.specs.Endings
pub use Rattle.restore_runs.specs.Reports
