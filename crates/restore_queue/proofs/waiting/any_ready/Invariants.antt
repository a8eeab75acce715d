-- None of those so far is ready.
use Rattle.std.proofs.Common.{◌≡◌, ℕ, ◌<◌, ◌≤◌, false}
use Rattle.restore_queue.specs.Ready.{is_ready_at}
use Rattle.restore_queue.proofs.waiting.any_ready.Given as goal

abbrev pub invariant-loop-k : goal.invariant-loop-k
invariant-loop-k l = (q : ℕ) → l.from ≤ q → q < l.k → is_ready_at l.phases l.waits l.met q ≡ false
