-- What was listed still is, and the place is listed under the marks so far.
use Rattle.std.proofs.Common.{◌≡◌, true, take, ℕ}
use Rattle.std.specs.List.{AllByRecursion}
use Rattle.cat_model.specs.declared.class.Mark.{Mark}
use Rattle.cat_model.specs.declared.key.Key.{Key}
use Rattle.plan_waits.specs.Buckets.{bucket, is_listed}
use Rattle.plan_waits.proofs.index.add_marks.Given as goal

abbrev pub invariant-loop-mark : goal.invariant-loop-mark
invariant-loop-mark l = record {
  kept : (k : Key) (i : ℕ) → is_listed l.initial.index k i ≡ true → is_listed l.index k i ≡ true;
  added : AllByRecursion (λ (m : Mark). is_listed l.index (bucket m) l.place ≡ true) (take l.mark-index l.marks);
}
