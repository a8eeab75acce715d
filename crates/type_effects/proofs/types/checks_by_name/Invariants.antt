-- The map has the checks from the place on that was reached.
use Rattle.std.proofs.Common.{◌≡◌, ◌≤◌, length}
use Rattle.type_effects.proofs.Named.{named_from}
use Rattle.type_effects.proofs.types.checks_by_name.Given as goal

abbrev pub invariant-checks : goal.invariant-checks
invariant-checks l = record {
  named_is : l.named ≡ named_from l.left l.checks;
  within : l.left ≤ length l.checks;
}

abbrev pub decreases-checks : goal.decreases-checks
decreases-checks l = l.left
