pub mod Tested
pub mod Writable
pub use Rattle.ddl_laws.proofs.Respelled
