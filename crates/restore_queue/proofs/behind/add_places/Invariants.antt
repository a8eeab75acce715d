-- What was listed stays; the place is listed behind each of those so far.
use Rattle.std.proofs.Common.{◌≡◌, ℕ, true, length, take}
use Rattle.restore_plan.specs.Entries.{is_among}
use Rattle.restore_queue.specs.Queues.{is_behind}
use Rattle.restore_queue.proofs.behind.add_places.Given as goal

abbrev pub invariant-loop-j : goal.invariant-loop-j
invariant-loop-j l = record {
  kept : (n k : ℕ) → is_behind l.initial.behind.items n k ≡ true → is_behind l.behind.items n k ≡ true;
  added : (q : ℕ) → is_among q (take l.j-index l.places) ≡ true → is_behind l.behind.items q l.i ≡ true;
  len : length l.behind.items ≡ length l.initial.behind.items;
}
