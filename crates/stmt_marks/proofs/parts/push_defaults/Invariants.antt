-- The marks so far are those that were there, and those of the columns so far.
use Rattle.std.proofs.Common.{◌≡◌, ◌++◌, take}
use Rattle.std.specs.List.{flat_map}
use Rattle.cat_model.specs.Footprints.{default_writes}
use Rattle.stmt_marks.proofs.parts.push_defaults.Given as goal

abbrev pub invariant-loop-column : goal.invariant-loop-column
invariant-loop-column l = l.marks.items ≡ l.initial.marks.items ++ flat_map (default_writes l.table) (take l.column-index l.columns)
