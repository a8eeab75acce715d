use Rattle.std.proofs.Common.{◌≡◌, length}
use Rattle.toc_parts.proofs.Loops.{with_front}
use Rattle.toc_layout.specs.Entries.{dependencies}
use Rattle.toc_layout.proofs.reading.dependencies.Given as goal

abbrev pub invariant-ids : goal.invariant-ids
invariant-ids l = with_front l.ids.items (dependencies.read l.left) ≡ dependencies.read l.rest

abbrev pub decreases-ids : goal.decreases-ids
decreases-ids l = length l.left
