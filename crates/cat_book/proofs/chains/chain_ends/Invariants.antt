-- The steps are so many from each place.
use Rattle.std.proofs.Common.{◌≤◌, ◌-◌, ◌+◌, length}
use Rattle.cat_book.proofs.Walks.{AreSteps}
use Rattle.cat_book.proofs.chains.chain_ends.Given as goal

abbrev pub invariant-loop-count : goal.invariant-loop-count
invariant-loop-count l = AreSteps l.rows l.steps.items l.count × (1 ≤ l.count)

abbrev pub decreases-loop-count : goal.decreases-loop-count
decreases-loop-count l = length l.rows + 1 - l.count
