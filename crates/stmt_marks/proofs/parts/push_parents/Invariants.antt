-- The marks so far are those that were there, and those of the pairs so far.
use Rattle.std.proofs.Common.{◌≡◌, ◌++◌, take}
use Rattle.cat_model.specs.Footprints.{parent_reads}
use Rattle.stmt_marks.proofs.parts.push_parents.Given as goal

abbrev pub invariant-loop-pair : goal.invariant-loop-pair
invariant-loop-pair l = l.marks.items ≡ l.initial.marks.items ++ parent_reads l.table (take l.pair-index l.pairs)
