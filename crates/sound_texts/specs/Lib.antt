pub mod Tests
pub mod Grammar
pub mod Examples
pub use Rattle.ddl_laws.specs.Respelling
