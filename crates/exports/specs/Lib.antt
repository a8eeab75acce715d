pub mod Cells
pub mod Exports
pub mod Holding
pub use Rattle.well_formed.specs.Catalogues
