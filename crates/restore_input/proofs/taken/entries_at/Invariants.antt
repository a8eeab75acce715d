-- What was taken so far are the entries at the places so far.
use Rattle.std.proofs.Common.{◌≡◌, take}
use Rattle.list_files.specs.Lists.{entries_at}
use Rattle.restore_input.proofs.taken.entries_at.Given as goal

abbrev pub invariant-loop-place : goal.invariant-loop-place
invariant-loop-place l = l.taken.items ≡ entries_at l.entries (take l.place-index l.places)
