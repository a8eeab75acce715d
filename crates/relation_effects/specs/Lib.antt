pub mod NewRelations
pub mod NewTables
