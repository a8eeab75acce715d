use Rattle.std.proofs.Common.{◌≡◌, length}
use Rattle.patterns.specs.Matching.{behind_character}
use Rattle.patterns.proofs.hits.behind_character.Given as goal

abbrev pub invariant-loop-name : goal.invariant-loop-name
invariant-loop-name l = behind_character l.name ≡ behind_character l.fn.name

abbrev pub decreases-loop-name : goal.decreases-loop-name
decreases-loop-name l = length l.name
