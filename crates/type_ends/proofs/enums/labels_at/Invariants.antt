-- The labels so far are those at the places so far.
use Rattle.std.proofs.Common.{◌≡◌, take}
use Rattle.type_ends.specs.Enums.{labels_at, labels_seen}
use Rattle.type_ends.proofs.enums.labels_at.Given as goal

abbrev pub invariant-loop-place : goal.invariant-loop-place
invariant-loop-place l = labels_seen l.labels.items ≡ labels_at l.rows (take l.place-index l.places)
