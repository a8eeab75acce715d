-- The lists so far are those of the sets so far.
use Rattle.std.proofs.Common.{◌≡◌, map, take}
use Rattle.restore_board.proofs.beginning.members_of_all.Given as goal

abbrev pub invariant-loop-set : goal.invariant-loop-set
invariant-loop-set l = map (λ v. v.items) l.lists.items ≡ map (λ s. s.keys) (take l.set-index l.sets)
