pub mod Said
pub mod Keys
pub mod KeySets
pub mod Table
pub use Rattle.text_tables.specs.Sequences
pub use Rattle.ddl_read.specs.Reading
pub use Rattle.text_tables.specs.Comments
