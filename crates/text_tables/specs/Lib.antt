pub mod Agreeing
pub mod Types
pub mod Columns
pub mod Indexes
pub mod Sequences
pub mod Views
pub use Rattle.plain_tables.specs.Comments
