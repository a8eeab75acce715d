use Rattle.std.proofs.Common.{rules}
use Rattle.cat_names.specs.Lookups.{place_of}
use Rattle.cat_names.proofs.oid_index.OidIndex.new.Goals as goal

pub invariant_of-result : goal.invariant_of-result
unfolding place_of
invariant_of-result c = λ oid. search rules
