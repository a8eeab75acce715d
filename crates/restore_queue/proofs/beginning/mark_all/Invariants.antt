-- The marks stay right, and as many.
use Rattle.std.proofs.Common.{◌≡◌, length}
use Rattle.restore_queue.specs.Indexed.{AreMarked}
use Rattle.restore_queue.proofs.beginning.mark_all.Given as goal

abbrev pub invariant-loop-at : goal.invariant-loop-at
invariant-loop-at l = record {
  marked : AreMarked l.phases l.waits l.met l.marks.items;
  len : length l.marks.items ≡ length l.initial.marks.items;
}
