use Rattle.std.proofs.Common.{rules, ◌∙◌, sym, List, Result, subst}
use Rattle.restore_plan.specs.declared.entry.Entry.{Entry}
use Rattle.restore_steps.specs.declared.fault.PlanFault.{PlanFault}
use Rattle.restore_steps.specs.Faults.{Gives}
use Rattle.restore_runs.proofs.Texts.{same_entries}
use Rattle.restore_runs.proofs.wanted.wanted_entries.Goals as goal

pub returns : goal.returns
returns c = sym (same_entries c.args.owners c.args.entries.now c.args.texts.items) ∙ c.in_ok-restored_entries.ensures.entries

pub returns-in_err-restored_entries : goal.returns-in_err-restored_entries
returns-in_err-restored_entries c =
    let P : Result (List Entry) PlanFault → Type 0 = λ (due : Result (List Entry) PlanFault). Gives (λ v. v.items) c.from_residual.result due in
    subst P (same_entries c.args.owners c.args.entries.now c.args.texts.items) (search rules)
