use Rattle.std.proofs.Common.{◌≡◌, ◌++◌, drop, map}
use Rattle.toc_table.specs.Writing.{entries_text}
use Rattle.archive_entries.specs.Extras.{filed}
use Rattle.archive_entries.proofs.fronts.write_filed_entries.Given as goal

abbrev pub invariant-loop-entry : goal.invariant-loop-entry
invariant-loop-entry l = l.out.items ++ entries_text (map filed (drop l.entry-index l.entries)) ≡ l.fn.out.items ++ entries_text (map filed l.entries)
