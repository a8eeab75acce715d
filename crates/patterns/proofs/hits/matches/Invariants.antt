use Rattle.std.proofs.Common.{◌≡◌}
use Rattle.patterns.specs.Matching.{matches}
use Rattle.patterns.specs.Left.{seen}
use Rattle.patterns.proofs.Following.{says, stars}
use Rattle.patterns.proofs.hits.matches.Given as goal

abbrev pub invariant-parts : goal.invariant-parts
invariant-parts l = says (seen l.left) ≡ matches l.fn.atoms l.fn.name

abbrev pub decreases-parts : goal.decreases-parts
decreases-parts l = stars (seen l.left)
