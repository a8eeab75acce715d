-- What all checks refer to is what those so far do, and behind it what the others do.
use Rattle.std.proofs.Common.{◌≡◌, ◌++◌, drop}
use Rattle.cat_model.specs.TypeEffects.{check_references}
use Rattle.eng_steps.proofs.references.check_refs.Given as goal

abbrev pub invariant-loop-check : goal.invariant-loop-check
invariant-loop-check l = check_references l.checks ≡ l.keys.items ++ check_references (drop l.check-index l.checks)
