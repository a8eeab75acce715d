-- The first that goes is the first from here on.
use Rattle.std.proofs.Common.{◌≡◌, ◌≤◌, ◌-◌, length}
use Rattle.std.specs.List.{find, range_with_len}
use Rattle.restore_queue.specs.Choosing.{first_place, goes_at}
use Rattle.restore_queue.proofs.choosing.first_place.Given as goal

abbrev pub invariant-places : goal.invariant-places
invariant-places l = record {
  within : l.i ≤ length l.plan;
  same : find (goes_at l.plan l.phases l.waits l.met l.running) (range_with_len l.i (length l.plan - l.i)) ≡ first_place l.plan l.phases l.waits l.met l.running;
}

abbrev pub decreases-places : goal.decreases-places
decreases-places l = length l.plan - l.i
