-- The keys so far are those of the checks so far.
use Rattle.std.proofs.Common.{◌≡◌, take}
use Rattle.cat_model.specs.TypeEffects.{check_references}
use Rattle.stmt_marks.proofs.parts.check_refs.Given as goal

abbrev pub invariant-loop-check : goal.invariant-loop-check
invariant-loop-check l = l.keys.items ≡ check_references (take l.check-index l.checks)
