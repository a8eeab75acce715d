-- The index has the oids so far.
use Rattle.std.proofs.Common.{◌≡◌, take}
use Rattle.cat_names.proofs.oid_index.OidIndex.of.Given as goal

abbrev pub invariant-loop-oid : goal.invariant-loop-oid
invariant-loop-oid l = l.index ≡ take l.oid-index l.oids
