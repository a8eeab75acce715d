-- The entries that have ended, and those to come, are the whole restore.
use Rattle.std.proofs.Common.{drop}
use Rattle.restore_plan.specs.Serial.{serial}
use Rattle.serial_restore.proofs.Lists.{Going}
use Rattle.serial_restore.proofs.serial.run_entries.Given as goal

abbrev pub invariant-loop-planned : goal.invariant-loop-planned
invariant-loop-planned l = Going l.blocked l.engine.boot l.engine.named (drop l.planned-index l.plan) l.statuses.items l.notes.items (serial l.fn.engine.boot l.fn.engine.named l.plan)
