use Rattle.std.proofs.Common.{◌≡◌, length}
use Rattle.patterns.specs.Left.{found_in}
use Rattle.patterns.proofs.hits.find.Given as goal

abbrev pub invariant-places : goal.invariant-places
invariant-places l = found_in l.atoms l.name ≡ found_in l.fn.atoms l.fn.name

abbrev pub decreases-places : goal.decreases-places
decreases-places l = length l.name
