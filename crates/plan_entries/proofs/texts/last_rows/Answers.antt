use Rattle.std.proofs.Common.{ap, ◌∙◌}
use Rattle.plan_entries.specs.Texts.{later_of}
use Rattle.plan_entries.proofs.Rows.{goes_on}
use Rattle.plan_entries.proofs.texts.last_rows.Goals as goal

pub loop-step-preserved : goal.loop-step-preserved
loop-step-preserved c = goes_on c.args.steps.now c.loop-step.step-index c.step-item.result _ _ _ c.loop-step-test.true c.step-item.is (c.later_of-last.ensures ∙ ap (later_of _) c.rows_in.ensures) c.loop-step.invariant
