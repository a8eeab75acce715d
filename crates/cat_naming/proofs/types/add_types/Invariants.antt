-- The entries of the rows so far stand behind those that were there.
use Rattle.std.proofs.Common.{◌≡◌, ◌++◌, take}
use Rattle.std.specs.List.{flat_map}
use Rattle.cat_naming.specs.Types.{type_entries}
use Rattle.cat_naming.proofs.types.add_types.Given as goal

abbrev pub invariant-loop-row : goal.invariant-loop-row
invariant-loop-row l = l.entries.items ≡ l.fn.entries.items ++ flat_map (type_entries l.fn.lookups) (take l.row-index l.rows)
