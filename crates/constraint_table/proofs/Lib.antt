pub mod SameSets
pub use Rattle.ddl_read.proofs.Computing
