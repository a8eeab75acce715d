-- The rows found so far, and those of the statements to come, are those of all.
use Rattle.std.proofs.Common.{◌≡◌, drop, option_map}
use Rattle.plan_entries.specs.Texts.{last_rows, later_of}
use Rattle.plan_entries.proofs.texts.last_rows.Given as goal

abbrev pub invariant-loop-step : goal.invariant-loop-step
invariant-loop-step l = later_of (option_map (λ rows. rows.now) l.last) (last_rows (drop l.step-index l.steps)) ≡ last_rows l.fn.steps
