pub mod Rows
pub mod Places
pub mod Looking
pub mod Rights
pub mod CheckMaps
pub mod RowLists
pub use Rattle.cat_lookups.proofs.Reached
