use Rattle.std.proofs.Common.{map}
use Rattle.std.specs.Vec.Iter.{into_iter_items}
use Rattle.restore_steps.specs.Faults.{entries_due}
use Rattle.restore_steps.specs.Statements.{definition_count}
use Rattle.restore_steps.proofs.Lists.{due_on, counts_on}
use Rattle.restore_steps.proofs.list.restored_entries.Goals as goal

pub loop-entry-preserved : goal.loop-entry-preserved
loop-entry-preserved c =
    let es = c.args.entries.now in
    let i = c.loop-entry.entry-index in
    let e = c.entry-item.result in
    let texts = c.next_text-rows.ensures in
    let made = c.in_ok-made.ensures in (
      due_on c.args.owners es i e c.loop-entry.restored.items c.push.new.self.items (into_iter_items c.loop-entry.texts) (into_iter_items c.next_text-rows.new.texts) _ c.in_ok-made.field-0.entry (entries_due c.args.owners es c.args.texts.items)
          c.loop-entry-test.true c.entry-item.is c.in_ok-push.ensures.items texts.rest texts.first made.entry c.loop-entry.invariant.0,
      counts_on es i e c.loop-entry.counts.items c.push-in-loop-entry.new.self.items c.in_ok-made.field-0.defined (map definition_count es)
          c.loop-entry-test.true c.entry-item.is c.in_ok-push-2.ensures.items made.defined c.loop-entry.invariant.1,
    )
