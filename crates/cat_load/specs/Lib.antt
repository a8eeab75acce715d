pub mod Loads
pub use Rattle.cat_naming.specs.Entries
pub use Rattle.cat_naming.specs.Texts
