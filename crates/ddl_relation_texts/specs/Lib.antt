pub use Rattle.ddl_part_laws.specs.Laws
pub use Rattle.ddl_forms.specs.Paths
pub use Rattle.ddl_forms.specs.Tables
pub use Rattle.ddl_forms.specs.Texts
pub use Rattle.ddl_forms.specs.Views
