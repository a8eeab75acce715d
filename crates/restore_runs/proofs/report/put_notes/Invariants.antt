-- The lines so far are those of the notes so far.
use Rattle.std.proofs.Common.{◌≡◌, ◌++◌, take}
use Rattle.restore_runs.specs.Reports.{note_lines}
use Rattle.restore_runs.proofs.report.put_notes.Given as goal

abbrev pub invariant-loop-note : goal.invariant-loop-note
invariant-loop-note l = l.out.items ≡ l.initial.out.items ++ note_lines l.teller l.entry (take l.note-index l.notes)
