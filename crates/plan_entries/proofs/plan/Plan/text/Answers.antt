use Rattle.std.proofs.Common.{ℕ, ◌<◌, List, length, drop, ap, sym, subst, ◌∙◌}
use Rattle.restore_plan.specs.declared.step.Step.{Step}
use Rattle.plan_entries.specs.Plans.{Made}
use Rattle.plan_entries.specs.Texts.{last_rows, text_at}
use Rattle.plan_entries.proofs.Rows.{text_is}
use Rattle.plan_entries.proofs.plan.Plan.text.Goals as goal

pub returns : goal.returns
returns c =
    let s = c.self.inside in
    let i : ℕ = c.args.i in
    let within : i < length s.entries.items = subst (λ (m : Made). i < length m.entries) (sym c.self.view_is) c.requires in
    c.rows_behind.ensures
    ∙ ap (λ (ss : List Step). last_rows (drop c.index-2.result.now ss)) c.as_slice.ensures
    ∙ text_is s.entries.items s.planned.items s.defined.items i c.index.result.now c.index-2.result.now c.self.invariant.0 c.self.invariant.1 within c.index.ensures c.index-2.ensures
    ∙ ap (λ (m : Made). text_at m i) c.self.view_is
