-- The foreign keys so far, and those of the statements to come, are those of all.
use Rattle.std.proofs.Common.{◌≡◌, ◌++◌, drop}
use Rattle.restore_plan.specs.Order.{foreign_keys_in}
use Rattle.plan_entries.proofs.footprints.put_foreign_keys.Given as goal

abbrev pub invariant-loop-step : goal.invariant-loop-step
invariant-loop-step l = l.parents ++ foreign_keys_in (drop l.step-index l.steps) ≡ l.fn.parents ++ foreign_keys_in l.steps
