use Rattle.std.proofs.Common.{◌≡◌, length}
use Rattle.patterns.specs.Left.{left_of}
use Rattle.patterns.proofs.hits.follow.Given as goal

abbrev pub invariant-atoms : goal.invariant-atoms
invariant-atoms l = left_of l.atoms l.name ≡ left_of l.fn.atoms l.fn.name

abbrev pub decreases-atoms : goal.decreases-atoms
decreases-atoms l = length l.atoms
