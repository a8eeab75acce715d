use Rattle.std.proofs.Common.{◌≡◌, take}
use Rattle.list_files.specs.Edits.{marked}
use Rattle.list_files.proofs.chosen.marked.Given as goal

abbrev pub invariant-loop-place : goal.invariant-loop-place
invariant-loop-place l = l.found.items ≡ marked l.marks (take l.place-index l.places)
