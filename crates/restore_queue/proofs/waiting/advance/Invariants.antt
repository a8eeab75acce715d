-- So many places at least were met.
use Rattle.std.proofs.Common.{◌≡◌, ℕ, ◌<◌, ◌≤◌, ◌-◌, true, length, Some}
use Rattle.std.specs.List.{slice_get}
use Rattle.restore_queue.specs.Ready.{ended_in}
use Rattle.restore_queue.proofs.waiting.advance.Given as goal

abbrev pub invariant-places : goal.invariant-places
invariant-places l = record {
  within : l.m ≤ length l.places;
  below : (k x : ℕ) → k < l.m → slice_get l.places k ≡ Some x → ended_in l.phases x ≡ true;
}

abbrev pub decreases-places : goal.decreases-places
decreases-places l = length l.places - l.m
