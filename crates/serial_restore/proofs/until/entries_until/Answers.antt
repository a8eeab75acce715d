use Rattle.std.proofs.Common.{ap, sym, ◌∙◌}
use Rattle.restore_plan.specs.Serial.{serial_until}
use Rattle.serial_restore.specs.Ways.{is_any}
use Rattle.serial_restore.proofs.Stops.{list_goes_on_by, list_ends_by}
use Rattle.serial_restore.proofs.until.entries_until.Goals as goal

pub returns-then-is_any : goal.returns-then-is_any
returns-then-is_any c =
    let l = c.loop-planned in
    list_ends_by c.args.engine.now.boot l.engine.boot c.args.plan.now l.planned-index c.planned-item.result c.as_slice.result.now l.engine.named c.entry_until.new.engine.named c.entry_until.new.stop.items (serial_until c.args.engine.now.boot c.args.engine.now.named c.args.plan.now)
    l.invariant.boot c.as_slice.ensures l.invariant.so_far c.loop-planned-test.true c.planned-item.is c.in_ok-entry_until.ensures.stops (ap is_any (sym c.as_slice-in-loop-planned.ensures.value) ∙ sym c.is_any.ensures ∙ c.if-is_any.true)

pub loop-planned-preserved : goal.loop-planned-preserved
loop-planned-preserved c =
    let l = c.loop-planned in
    let both = list_goes_on_by c.args.engine.now.boot l.engine.boot c.args.plan.now l.planned-index c.planned-item.result c.as_slice.result.now l.engine.named c.entry_until.new.engine.named c.entry_until.new.stop.items (serial_until c.args.engine.now.boot c.args.engine.now.named c.args.plan.now)
    l.invariant.boot c.as_slice.ensures l.invariant.so_far c.loop-planned-test.true c.planned-item.is c.in_ok-entry_until.ensures.stops (ap is_any (sym c.as_slice-in-loop-planned.ensures.value) ∙ sym c.is_any.ensures ∙ c.if-is_any.false) in
    record {
      so_far = both.0;
      none = both.1;
      boot = c.in_ok-entry_until.ensures.boot ∙ l.invariant.boot;
    }
