pub mod Data
pub mod Tables
pub mod Made
pub use Rattle.entry_ids.specs.Entries
pub use Rattle.entry_ids.specs.Ids
