use Rattle.restore_runs.proofs.EntryLines.{one_more}
use Rattle.restore_runs.proofs.report.put_notes.Goals as goal

pub loop-note-preserved : goal.loop-note-preserved
loop-note-preserved c =
    one_more c.args.teller.now c.args.entry.now c.args.out.now.items c.loop-note.out.items c.put_error.new.out.items c.args.notes.now c.loop-note.note-index c.note-item.result c.loop-note.invariant c.in_ok-put_error.ensures c.loop-note-test.true c.note-item.is
