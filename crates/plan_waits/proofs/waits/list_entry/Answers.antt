use Rattle.std.proofs.Common.{◌≡◌, ℕ, true, Some, List, sym, ap, subst, ◌∙◌}
use Rattle.std.proofs.lemmas.Option.{slice_get-get_or}
use Rattle.std.specs.List.{AllByRecursion, slice_get}
use Rattle.cat_model.specs.declared.class.Mark.{Mark}
use Rattle.restore_plan.specs.declared.planned.Planned.{Planned}
use Rattle.plan_waits.specs.Buckets.{bucket, is_listed}
use Rattle.plan_waits.proofs.Meeting.{listed_still, listed_at}
use Rattle.plan_waits.proofs.waits.list_entry.Goals as goal

pub returns-clause-kept : goal.returns-clause-kept
returns-clause-kept c = λ i at.
    let l = c.args.listed.now in
    listed_still l.ids c.add_id.new.ids l.writers c.add_marks.new.index l.readers c.add_marks-2.new.index c.args.plan.now i c.in_ok-add_id.ensures.kept c.in_ok-add_marks.ensures.kept c.in_ok-add_marks-2.ensures.kept at

pub returns-clause-added : goal.returns-clause-added
returns-clause-added c =
    let plan = c.args.plan.now in
    let j = c.args.j in
    let p : Planned = c.index-plan-j.result in
    let there : slice_get plan j ≡ Some p = slice_get-get_or plan j p c.requires ∙ ap (λ (x : Planned). Some x) (sym c.index-plan-j.is) in
    listed_at c.add_id.new.ids c.add_marks.new.index c.add_marks-2.new.index plan j p there c.in_ok-add_id.ensures.added
    (subst (AllByRecursion (λ (m : Mark). is_listed c.add_marks.new.index (bucket m) j ≡ true)) c.as_slice.ensures c.in_ok-add_marks.ensures.added)
    (subst (AllByRecursion (λ (m : Mark). is_listed c.add_marks-2.new.index (bucket m) j ≡ true)) c.as_slice-2.ensures c.in_ok-add_marks-2.ensures.added)
