pub mod Due
pub mod Inputs
pub mod Outputs
pub mod Runs
pub mod Stays
pub mod Works
pub use Rattle.dump_targets.specs.Targets
