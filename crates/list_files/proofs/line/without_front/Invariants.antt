use Rattle.std.proofs.Common.{◌≡◌, length}
use Rattle.list_files.specs.Lines.{without_front}
use Rattle.list_files.proofs.line.without_front.Given as goal

abbrev pub invariant-loop-first : goal.invariant-loop-first
invariant-loop-first l = without_front l.text ≡ without_front l.rest

abbrev pub decreases-loop-first : goal.decreases-loop-first
decreases-loop-first l = length l.rest
