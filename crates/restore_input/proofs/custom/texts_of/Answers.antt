use Rattle.restore_input.proofs.RowsRead.{custom_next}
use Rattle.restore_input.proofs.custom.texts_of.Goals as goal

pub loop-entry-preserved : goal.loop-entry-preserved
loop-entry-preserved c = λ custom holds.
    custom_next custom c.args.entries.now c.loop-entry.entry-index c.entry-item.result c.loop-entry.texts.items c.push_rows.new.texts.items (c.loop-entry.invariant custom holds) (c.in_ok-push_rows.ensures custom holds) c.loop-entry-test.true c.entry-item.is
