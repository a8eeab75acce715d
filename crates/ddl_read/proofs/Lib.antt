pub mod Common
pub mod OneToken
pub mod Statements
pub use Rattle.ddl_scripts.proofs.Computing
