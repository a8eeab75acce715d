use Rattle.std.proofs.Common.{◌≡◌, ◌++◌, drop}
use Rattle.toc_table.specs.Writing.{entries_text}
use Rattle.archive_entries.specs.Extras.{told}
use Rattle.archive_entries.proofs.fronts.write_placed_entries.Given as goal

abbrev pub invariant-loop-entry : goal.invariant-loop-entry
invariant-loop-entry l = l.out.items ++ entries_text (told (drop l.entry-index l.entries) l.left) ≡ l.fn.out.items ++ entries_text (told l.entries l.places)
