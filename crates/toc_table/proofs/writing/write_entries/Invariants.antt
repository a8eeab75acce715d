use Rattle.std.proofs.Common.{◌≡◌, ◌++◌, drop}
use Rattle.copy_text.specs.Rows.{Extends}
use Rattle.toc_table.specs.Writing.{entries_text}
use Rattle.toc_table.proofs.writing.write_entries.Given as goal

abbrev pub invariant-loop-entry : goal.invariant-loop-entry
invariant-loop-entry l = record {
  rest : l.out.items ++ entries_text (drop l.entry-index l.entries) ≡ l.fn.out.items ++ entries_text l.entries;
  kept : Extends l.fn.out.items l.out.items;
}
