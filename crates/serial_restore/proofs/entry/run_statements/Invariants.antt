-- What the statements to come make of the entry as it is under way is what all of them make of it.
use Rattle.std.proofs.Common.{◌≡◌, [], drop}
use Rattle.restore_plan.specs.Serial.{after_steps}
use Rattle.serial_restore.specs.Ways.{way}
use Rattle.serial_restore.proofs.entry.run_statements.Given as goal

abbrev pub invariant-loop-step : goal.invariant-loop-step
invariant-loop-step l = record {
  so_far : after_steps l.fn.engine.boot l.id (drop l.step-index l.steps) (way l.engine.named l.step-index l.notes.items) ≡ after_steps l.fn.engine.boot l.id l.steps (way l.fn.engine.named 0 l.fn.notes.items);
  run : l.run ≡ l.step-index;
  none : l.refused.items ≡ [];
  boot : l.engine.boot ≡ l.fn.engine.boot;
}
