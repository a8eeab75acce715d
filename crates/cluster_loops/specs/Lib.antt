pub use Rattle.entry_ids.specs.Ids
