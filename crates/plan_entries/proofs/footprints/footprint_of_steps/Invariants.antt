-- What was read and written so far, and what the statements to come read and write, are what all do.
use Rattle.std.proofs.Common.{◌≡◌, ◌++◌, drop}
use Rattle.restore_plan.specs.Order.{footprint_of_steps}
use Rattle.plan_entries.proofs.footprints.footprint_of_steps.Given as goal

abbrev pub invariant-loop-step : goal.invariant-loop-step
invariant-loop-step l = record {
  reads : l.reads.items ++ (footprint_of_steps l.parents (drop l.step-index l.steps)).reads ≡ (footprint_of_steps l.parents l.steps).reads;
  writes : l.writes.items ++ (footprint_of_steps l.parents (drop l.step-index l.steps)).writes ≡ (footprint_of_steps l.parents l.steps).writes;
}
