-- The entries of the rows so far stand behind those that were there.
use Rattle.std.proofs.Common.{◌≡◌, ◌++◌, take}
use Rattle.std.specs.List.{flat_map}
use Rattle.cat_naming.specs.Relations.{class_entries}
use Rattle.cat_naming.specs.Texts.{rows_by_oid}
use Rattle.cat_naming.proofs.relations.add_classes.Given as goal

abbrev pub invariant-loop-row : goal.invariant-loop-row
invariant-loop-row l = l.entries.items ≡ l.fn.entries.items ++ flat_map (class_entries l.fn.lookups (rows_by_oid l.fn.texts)) (take l.row-index l.rows)
