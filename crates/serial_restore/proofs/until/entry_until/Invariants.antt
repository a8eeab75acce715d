-- The statements to come end where all of them do.
use Rattle.std.proofs.Common.{◌≡◌, [], drop}
use Rattle.restore_plan.specs.Serial.{steps_until}
use Rattle.serial_restore.proofs.until.entry_until.Given as goal

abbrev pub invariant-loop-step : goal.invariant-loop-step
invariant-loop-step l = record {
  so_far : steps_until l.fn.engine.boot l.id (drop l.step-index l.steps) l.engine.named ≡ steps_until l.fn.engine.boot l.id l.steps l.fn.engine.named;
  none : l.stop.items ≡ [];
  boot : l.engine.boot ≡ l.fn.engine.boot;
}
