use Rattle.std.proofs.Common.{◌≡◌, ◌++◌, take}
use Rattle.std.specs.List.{flat_map}
use Rattle.list_files.specs.Lists.{list_line, entries_at}
use Rattle.list_files.proofs.list.put_lines_at.Given as goal

abbrev pub invariant-loop-place : goal.invariant-loop-place
invariant-loop-place l = l.out.items ≡ l.fn.out.items ++ flat_map list_line (entries_at l.entries (take l.place-index l.places))
