-- What was found stays, and is before; all that is before and listed under the dump ids so far was found.
use Rattle.std.proofs.Common.{◌≡◌, true, take, ℕ}
use Rattle.std.specs.Ordering.{nat_cmp}
use Rattle.std.specs.BTreeSet.{contains}
use Rattle.std.specs.List.{AllByRecursion}
use Rattle.plan_waits.specs.Buckets.{AreBefore, Covers, has_id}
use Rattle.plan_waits.proofs.finding.put_ids.Given as goal

abbrev pub invariant-loop-id : goal.invariant-loop-id
invariant-loop-id l = record {
  kept : (q : ℕ) → contains nat_cmp l.initial.found q ≡ true → contains nat_cmp l.found q ≡ true;
  sound : AreBefore l.plan l.j l.found;
  covers : AllByRecursion (λ (id : ℕ). Covers l.plan l.j l.found (has_id l.ids id)) (take l.id-index l.deps);
}
