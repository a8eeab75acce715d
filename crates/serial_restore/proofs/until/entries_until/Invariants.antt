-- The entries to come end where all of them do.
use Rattle.std.proofs.Common.{◌≡◌, [], drop}
use Rattle.restore_plan.specs.Serial.{serial_until}
use Rattle.serial_restore.proofs.until.entries_until.Given as goal

abbrev pub invariant-loop-planned : goal.invariant-loop-planned
invariant-loop-planned l = record {
  so_far : serial_until l.fn.engine.boot l.engine.named (drop l.planned-index l.plan) ≡ serial_until l.fn.engine.boot l.fn.engine.named l.plan;
  none : l.stop.items ≡ [];
  boot : l.engine.boot ≡ l.fn.engine.boot;
}
