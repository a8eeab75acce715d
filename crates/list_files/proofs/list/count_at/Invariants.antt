use Rattle.std.proofs.Common.{◌≡◌, ◌≤◌, length, take}
use Rattle.list_files.specs.Lists.{entries_at}
use Rattle.list_files.proofs.list.count_at.Given as goal

abbrev pub invariant-loop-place : goal.invariant-loop-place
invariant-loop-place l = (l.count ≡ length (entries_at l.entries (take l.place-index l.places))) × (l.count ≤ l.place-index)
