use Rattle.std.proofs.Common.{ap, sym, ◌∙◌}
use Rattle.restore_plan.specs.Serial.{after_steps}
use Rattle.serial_restore.specs.Ways.{is_any, way}
use Rattle.serial_restore.proofs.Runs.{stops_at}
use Rattle.serial_restore.proofs.entry.run_statements.Goals as goal

pub returns-then-is_any-clause-at : goal.returns-then-is_any-clause-at
returns-then-is_any-clause-at c =
    let l = c.loop-step in
    let e = c.in_ok-run_statement.ensures in
    stops_at c.args.engine.now.boot l.engine.boot c.args.id c.args.steps.now l.step-index c.step-item.result l.engine.named c.run_statement.new.engine.named l.notes.items c.run_statement.new.notes.items l.refused.items c.run_statement.new.refused.items l.run
    (after_steps c.args.engine.now.boot c.args.id c.args.steps.now (way c.args.engine.now.named 0 c.args.notes.now.items))
    l.invariant.so_far c.loop-step-test.true c.step-item.is l.invariant.boot l.invariant.none l.invariant.run e.applied e.noted e.ending (ap is_any (sym c.as_slice.ensures.value) ∙ sym c.is_any.ensures ∙ c.if-is_any.true)
