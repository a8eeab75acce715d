-- So many lists there are.
use Rattle.std.proofs.Common.{◌≡◌, length}
use Rattle.restore_queue.proofs.behind.empties.Given as goal

abbrev pub invariant-loop : goal.invariant-loop
invariant-loop l = length l.lists.items ≡ l.counter
