-- The places so far with those that are left are all.
use Rattle.std.proofs.Common.{◌≡◌, ◌++◌}
use Rattle.restore_board.proofs.beginning.members.Given as goal

abbrev pub invariant-loop-place : goal.invariant-loop-place
invariant-loop-place l = l.places.items ++ l.place-iterator ≡ l.set.keys
