-- What the items that are left give, in front of the grants so far, are all grants.
use Rattle.std.proofs.Common.{◌≡◌, length}
use Rattle.std.specs.FinMap.{from_entries}
use Rattle.cat_naming.specs.Rights.{grant_entries}
use Rattle.cat_naming.proofs.Rights.{given_onto}
use Rattle.cat_naming.proofs.grants.listed_grants.Given as goal

abbrev pub invariant-items : goal.invariant-items
invariant-items l = given_onto l.owner l.left l.grants ≡ from_entries (grant_entries l.owner l.items)

abbrev pub decreases-items : goal.decreases-items
decreases-items l = length l.left
