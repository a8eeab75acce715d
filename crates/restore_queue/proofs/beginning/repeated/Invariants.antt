-- So many there are.
use Rattle.std.proofs.Common.{◌≡◌, replicate}
use Rattle.restore_queue.proofs.beginning.repeated.Given as goal

abbrev pub invariant-loop : goal.invariant-loop
invariant-loop g l = l.items.items ≡ replicate l.counter l.item
