-- The notes so far are all of the entry.
use Rattle.std.proofs.Common.{◌≡◌, ◌+◌, drop}
use Rattle.restore_runs.specs.Reports.{own}
use Rattle.restore_runs.proofs.report.own.Given as goal

abbrev pub invariant-loop-note : goal.invariant-loop-note
invariant-loop-note l = record {
  at : l.count ≡ l.note-index;
  so_far : l.count + own l.id (drop l.note-index l.notes) ≡ own l.id l.notes;
}
