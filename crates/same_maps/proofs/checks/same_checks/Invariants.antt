-- What is left of both is the same exactly where the maps are.
use Rattle.same_maps.proofs.Entries.{AreLeft}
use Rattle.same_maps.proofs.checks.same_checks.Given as goal

abbrev pub invariant-loop-check : goal.invariant-loop-check
invariant-loop-check l = AreLeft l.a l.b l.check-iterator l.others
