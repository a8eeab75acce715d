-- So many wait.
use Rattle.std.proofs.Common.{◌≡◌, replicate}
use Rattle.restore_core.specs.declared.phase.Phase.TheVariants.{Waiting}
use Rattle.restore_queue.proofs.beginning.all_waiting.Given as goal

abbrev pub invariant-loop : goal.invariant-loop
invariant-loop l = l.entries.items ≡ replicate l.counter Waiting
