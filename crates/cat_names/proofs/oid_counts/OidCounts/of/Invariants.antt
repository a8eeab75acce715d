-- The counts are of the oids so far.
use Rattle.std.proofs.Common.{◌≡◌, take}
use Rattle.cat_names.proofs.oid_counts.OidCounts.of.Given as goal

abbrev pub invariant-loop-oid : goal.invariant-loop-oid
invariant-loop-oid l = l.counts ≡ take l.oid-index l.oids
