use Rattle.std.proofs.Common.{◌≡◌, ℕ, true, Some, List, sym, ap, subst, ◌∙◌}
use Rattle.std.proofs.lemmas.Option.{slice_get-get_or}
use Rattle.std.specs.List.{AllByRecursion, slice_get}
use Rattle.std.specs.Ordering.{nat_cmp}
use Rattle.std.specs.BTreeSet.{contains}
use Rattle.cat_model.specs.declared.class.Mark.{Mark}
use Rattle.restore_plan.specs.declared.planned.Planned.{Planned}
use Rattle.restore_plan.specs.Order.{before_at}
use Rattle.plan_waits.specs.Buckets.{Covers, bucket, has_id, is_listed}
use Rattle.plan_waits.proofs.Meeting.{all_cover, complete, same_truth}
use Rattle.plan_waits.proofs.waits.waits_of.Goals as goal

pub returns : goal.returns
returns c = λ i.
    let l = c.args.listed.now in
    let plan = c.args.plan.now in
    let j = c.args.j in
    let p : Planned = c.index-plan-j.result in
    let there : slice_get plan j ≡ Some p = slice_get-get_or plan j p c.requires.there ∙ ap (λ (x : Planned). Some x) (sym c.index-plan-j.is) in
    let one = c.put_ids.new.found in
    let two = c.put_marks.new.found in
    let three = c.put_marks-2.new.found in
    let four = c.put_marks-3.new.found in
    let written = λ (m : Mark). is_listed l.writers (bucket m) in
    let read = λ (m : Mark). is_listed l.readers (bucket m) in
    let last = c.in_ok-put_marks-3.ensures.kept in
    let later : (q : ℕ) → contains nat_cmp two q ≡ true → contains nat_cmp four q ≡ true = λ q h. last q (c.in_ok-put_marks-2.ensures.kept q h) in
    let latest : (q : ℕ) → contains nat_cmp one q ≡ true → contains nat_cmp four q ≡ true = λ q h. later q (c.in_ok-put_marks.ensures.kept q h) in
    let by_deps : AllByRecursion (λ (d : ℕ). Covers plan j four (has_id l.ids d)) p.deps = all_cover plan j one four (has_id l.ids) p.deps latest
    (subst (AllByRecursion (λ (d : ℕ). Covers plan j one (has_id l.ids d))) c.as_slice.ensures c.in_ok-put_ids.ensures.covers) in
    let by_reads : AllByRecursion (λ (m : Mark). Covers plan j four (written m)) p.footprint.reads = all_cover plan j two four written p.footprint.reads later
    (subst (AllByRecursion (λ (m : Mark). Covers plan j two (written m))) c.as_slice-2.ensures c.in_ok-put_marks.ensures.covers) in
    let by_writes : AllByRecursion (λ (m : Mark). Covers plan j four (written m)) p.footprint.writes = all_cover plan j three four written p.footprint.writes last
    (subst (AllByRecursion (λ (m : Mark). Covers plan j three (written m))) c.as_slice-3.ensures c.in_ok-put_marks-2.ensures.covers) in
    let by_readers : AllByRecursion (λ (m : Mark). Covers plan j four (read m)) p.footprint.writes =
    subst (AllByRecursion (λ (m : Mark). Covers plan j four (read m))) c.as_slice-4.ensures c.in_ok-put_marks-3.ensures.covers in
    same_truth (contains nat_cmp four i) (before_at plan i j) (c.in_ok-put_marks-3.ensures.sound i)
    (complete l.ids l.writers l.readers plan j four p there c.requires.earlier by_deps by_reads by_writes by_readers i)
