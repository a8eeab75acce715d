use Rattle.std.specs.List.{flat_map}
use Rattle.cat_naming.specs.Constraints.{index_entries}
use Rattle.named_tables.proofs.Entries.{entries_stand}
use Rattle.named_objects.specs.Kinds.{of_indexes}
use Rattle.named_objects.proofs.Indexes.{indexes_stand}
use Rattle.named_objects.proofs.laws.indexes_are_named.Goals as goal

pub returns : goal.returns
returns c = λ texts named oids current depends cat rows sound own are. entries_stand named of_indexes (flat_map index_entries cat.pg_index) (indexes_stand texts named sound oids.of cat are.indexes)
