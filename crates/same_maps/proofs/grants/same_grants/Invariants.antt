-- What is left of both is the same exactly where the maps are.
use Rattle.same_maps.proofs.Entries.{AreLeft}
use Rattle.same_maps.proofs.grants.same_grants.Given as goal

abbrev pub invariant-loop-grant : goal.invariant-loop-grant
invariant-loop-grant l = AreLeft l.a l.b l.grant-iterator l.others
