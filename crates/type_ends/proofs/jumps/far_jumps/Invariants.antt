-- The jumps are of so many steps from each place.
use Rattle.std.proofs.Common.{◌≤◌, ◌-◌, length}
use Rattle.type_ends.proofs.Trails.{AreJumps}
use Rattle.type_ends.proofs.jumps.far_jumps.Given as goal

abbrev pub invariant-loop-count : goal.invariant-loop-count
invariant-loop-count l = record { are : AreJumps l.fn.steps.items l.jumps.items l.count; some : 1 ≤ l.count }

abbrev pub decreases-loop-count : goal.decreases-loop-count
decreases-loop-count l = length l.fn.steps.items - l.count
