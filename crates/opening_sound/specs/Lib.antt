pub mod Left
pub mod Export
pub use Rattle.opening_laws.specs.Keeping
pub use Rattle.opening_laws.specs.Ids
