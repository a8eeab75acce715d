-- What was found stays, and is before; all that is before and listed under the marks so far was found.
use Rattle.std.proofs.Common.{◌≡◌, true, take, ℕ}
use Rattle.std.specs.Ordering.{nat_cmp}
use Rattle.std.specs.BTreeSet.{contains}
use Rattle.std.specs.List.{AllByRecursion}
use Rattle.cat_model.specs.declared.class.Mark.{Mark}
use Rattle.plan_waits.specs.Buckets.{AreBefore, Covers, bucket, is_listed}
use Rattle.plan_waits.proofs.finding.put_marks.Given as goal

abbrev pub invariant-loop-mark : goal.invariant-loop-mark
invariant-loop-mark l = record {
  kept : (q : ℕ) → contains nat_cmp l.initial.found q ≡ true → contains nat_cmp l.found q ≡ true;
  sound : AreBefore l.plan l.j l.found;
  covers : AllByRecursion (λ (m : Mark). Covers l.plan l.j l.found (is_listed l.index (bucket m))) (take l.mark-index l.marks);
}
