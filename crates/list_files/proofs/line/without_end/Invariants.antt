use Rattle.std.proofs.Common.{◌≡◌, length, reverse}
use Rattle.list_files.specs.Lines.{without_front}
use Rattle.list_files.proofs.line.without_end.Given as goal

abbrev pub invariant-loop-last : goal.invariant-loop-last
invariant-loop-last l = reverse (without_front (reverse l.text)) ≡ reverse (without_front (reverse l.rest))

abbrev pub decreases-loop-last : goal.decreases-loop-last
decreases-loop-last l = length l.rest
