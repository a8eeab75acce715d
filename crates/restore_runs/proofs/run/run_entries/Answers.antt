use Rattle.std.proofs.Common.{◌≡◌, IfOk, subst, sym, ◌∙◌}
use Rattle.restore_runs.specs.Endings.{Ending, ended}
use Rattle.restore_runs.proofs.OneWorker.{same_ending}
use Rattle.restore_runs.proofs.run.run_entries.Goals as goal

pub returns : goal.returns
returns c =
    let a = c.args in
    let P : Ending → Type 0 = λ (e : Ending). IfOk c.run_plan.result (λ t. e ≡ ended c.run_plan.new.engine.named t.report.items t.errors t.stopped) in
    subst P
    (sym (same_ending a.stop a.teller.now a.engine.now.boot a.entries.now a.wanted.items a.engine.now.named c.deref.result.now (c.deref.ensures.value ∙ c.in_ok-plan.ensures)
    c.foreign_keys_change_nothing.ensures.serial c.foreign_keys_change_nothing.ensures.until))
    c.run_plan.ensures
