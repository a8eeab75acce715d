use Rattle.std.proofs.Common.{List, length, map, ap, sym, ◌∙◌}
use Rattle.restore_plan.specs.declared.planned.Planned.{Planned}
use Rattle.restore_steps.specs.Statements.{definition_count}
use Rattle.toc_entry.specs.declared.entry.Entry.{Entry}
use Rattle.plan_entries.proofs.Lengths.{as_many_restored, as_many_planned}
use Rattle.plan_entries.proofs.plan.Plan.make.Goals as goal

pub invariant_of-result : goal.invariant_of-result
invariant_of-result c =
    let restored = c.in_ok-restored.restored.entries.items in (
      sym (ap (λ (es : List Entry). length es) c.deref.ensures.value)
          ∙ as_many_restored c.args.owners c.deref.result.now c.args.texts.items restored c.in_ok-restored.ensures.entries
          ∙ sym (as_many_planned c.args.parents _ restored)
          ∙ sym (ap (λ (ps : List Planned). length ps) c.in_ok-planned.ensures),
      c.in_ok-restored.ensures.defined ∙ ap (map definition_count) c.deref.ensures.value,
    )
