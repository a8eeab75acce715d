-- The lines so far, and those of the entries to come, are all of them.
use Rattle.std.proofs.Common.{◌≡◌, ◌++◌, drop}
use Rattle.restore_runs.specs.Reports.{entry_lines}
use Rattle.restore_runs.proofs.report.put_entries.Given as goal

abbrev pub invariant-loop-entry : goal.invariant-loop-entry
invariant-loop-entry l = record {
  at : l.place ≡ l.entry-index;
  so_far : l.out.items ++ entry_lines l.teller (drop l.entry-index l.entries) (drop l.place l.statuses) l.left ≡ l.fn.out.items ++ entry_lines l.teller l.entries l.statuses l.notes;
}
