-- None of the workers so far runs an entry.
use Rattle.std.proofs.Common.{◌≡◌, ℕ, ◌<◌, None}
use Rattle.restore_queue.specs.Workers.{entry_in}
use Rattle.restore_queue.proofs.running.first_worker.Given as goal

abbrev pub invariant-loop-worker : goal.invariant-loop-worker
invariant-loop-worker l = (k : ℕ) → k < l.worker → entry_in l.running k ≡ None
