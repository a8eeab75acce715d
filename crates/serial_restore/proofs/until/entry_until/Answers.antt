use Rattle.std.proofs.Common.{ap, sym, ◌∙◌}
use Rattle.restore_plan.specs.Serial.{steps_until}
use Rattle.serial_restore.specs.Ways.{is_any}
use Rattle.serial_restore.proofs.Stops.{goes_on_by, ends_by}
use Rattle.serial_restore.proofs.until.entry_until.Goals as goal

pub returns-then-is_any-clause-stops : goal.returns-then-is_any-clause-stops
returns-then-is_any-clause-stops c =
    let l = c.loop-step in
    ends_by c.args.engine.now.boot l.engine.boot c.args.id c.args.steps.now l.step-index c.step-item.result l.engine.named c.step_until.new.engine.named c.step_until.new.stop.items (steps_until c.args.engine.now.boot c.args.id c.args.steps.now c.args.engine.now.named)
    l.invariant.boot l.invariant.so_far c.loop-step-test.true c.step-item.is c.in_ok-step_until.ensures.stops (ap is_any (sym c.as_slice.ensures.value) ∙ sym c.is_any.ensures ∙ c.if-is_any.true)

pub loop-step-preserved : goal.loop-step-preserved
loop-step-preserved c =
    let l = c.loop-step in
    let both = goes_on_by c.args.engine.now.boot l.engine.boot c.args.id c.args.steps.now l.step-index c.step-item.result l.engine.named c.step_until.new.engine.named c.step_until.new.stop.items (steps_until c.args.engine.now.boot c.args.id c.args.steps.now c.args.engine.now.named)
    l.invariant.boot l.invariant.so_far c.loop-step-test.true c.step-item.is c.in_ok-step_until.ensures.stops (ap is_any (sym c.as_slice.ensures.value) ∙ sym c.is_any.ensures ∙ c.if-is_any.false) in
    record {
      so_far = both.0;
      none = both.1;
      boot = c.in_ok-step_until.ensures.boot ∙ l.invariant.boot;
    }
