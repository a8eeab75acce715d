-- The marks so far are those that were there, and those of the checks so far.
use Rattle.std.proofs.Common.{◌≡◌, ◌++◌, map, take}
use Rattle.cat_model.specs.declared.key.Key.TheVariants as key
use Rattle.cat_model.specs.declared.class.Mark.TheVariants as mark
use Rattle.stmt_marks.proofs.parts.push_checks.Given as goal

abbrev pub invariant-loop-check : goal.invariant-loop-check
invariant-loop-check l = l.marks.items ≡ l.initial.marks.items ++ map (λ c. mark.Key (key.Con l.table c.name)) (take l.check-index l.checks)
