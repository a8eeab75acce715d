-- What was found stays, and is before; of the places so far all that are before were found.
use Rattle.std.proofs.Common.{◌≡◌, true, take, ℕ}
use Rattle.std.specs.Ordering.{nat_cmp}
use Rattle.std.specs.BTreeSet.{contains}
use Rattle.plan_waits.specs.Buckets.{AreBefore, Covers, has}
use Rattle.plan_waits.proofs.finding.put_places.Given as goal

abbrev pub invariant-loop-place : goal.invariant-loop-place
invariant-loop-place l = record {
  kept : (q : ℕ) → contains nat_cmp l.initial.found q ≡ true → contains nat_cmp l.found q ≡ true;
  sound : AreBefore l.plan l.j l.found;
  covers : Covers l.plan l.j l.found (has (take l.place-index l.places));
}
