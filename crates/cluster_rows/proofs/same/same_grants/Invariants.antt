-- What is left of both is the same exactly where the maps are.
use Rattle.cluster_rows.proofs.Entries.{AreLeft}
use Rattle.cluster_rows.proofs.same.same_grants.Given as goal

abbrev pub invariant-loop-grant : goal.invariant-loop-grant
invariant-loop-grant l = AreLeft l.a l.b l.grant-iterator l.others
