-- The statuses so far with those that are left are all; there is room for those that are left.
use Rattle.std.proofs.Common.{◌≡◌, ◌+◌, ◌≤◌, ◌++◌, length}
use Rattle.std.specs.List.{filter_map}
use Rattle.std.specs.Vec.{vec_capacity}
use Rattle.std.specs.Vec.Iter.{into_iter_items}
use Rattle.restore_core.specs.Phases.{status_in}
use Rattle.restore_board.proofs.ending.statuses_of.Given as goal

abbrev pub invariant-entries : goal.invariant-entries
invariant-entries l = record {
  all : l.statuses.items ++ filter_map status_in (into_iter_items l.left) ≡ filter_map status_in (into_iter_items l.initial.left);
  room : length l.statuses.items + length (into_iter_items l.left) ≤ vec_capacity l.statuses;
}

abbrev pub decreases-entries : goal.decreases-entries
decreases-entries l = length (into_iter_items l.left)
