pub mod Openings
pub use Rattle.cat_load.specs.Loads
pub use Rattle.exports.specs.Exports
