-- The checks that are left, in front of those that were put, are all checks.
use Rattle.std.proofs.Common.{◌≡◌, vec_len}
use Rattle.std.specs.FinMap.{from_entries}
use Rattle.cat_model.specs.Holders.{bytes_cmp}
use Rattle.eng_map.proofs.Backwards.{onto}
use Rattle.cat_naming.proofs.checks.by_name.Given as goal

abbrev pub invariant-checks : goal.invariant-checks
invariant-checks l = onto l.listed.items l.checks ≡ from_entries {R = bytes_cmp} l.fn.listed.items

abbrev pub decreases-checks : goal.decreases-checks
decreases-checks l = vec_len l.listed
