pub use Rattle.ddl_spelling.specs.Paths
pub use Rattle.ddl_spelling.specs.RightsText
pub use Rattle.ddl_spelling.specs.Roles
pub use Rattle.ddl_spelling.specs.Tables
pub use Rattle.ddl_parts.specs.Texts
pub use Rattle.ddl_spelling.specs.Views
pub use Rattle.ddl_parts.specs.declared.runs
pub use Rattle.ddl_parts.specs.declared.types
