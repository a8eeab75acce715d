-- The keys so far, with those of the lexemes that are left, are the keys of all.
use Rattle.std.proofs.Common.{◌≡◌, ◌++◌, map, length}
use Rattle.cat_model.specs.References.{references_in}
use Rattle.stmt_refs.specs.Said.{said}
use Rattle.stmt_refs.proofs.expression.references_in.Given as goal

abbrev pub invariant-loop-x : goal.invariant-loop-x
invariant-loop-x l = l.keys.items ++ references_in (map said l.left) ≡ references_in (map said l.initial.left)

abbrev pub decreases-loop-x : goal.decreases-loop-x
decreases-loop-x l = length l.left
