-- The sets so far are what their entries wait for, and all entries so far are listed.
use Rattle.std.proofs.Common.{◌≡◌, ◌<◌, ℕ, length}
use Rattle.plan_waits.specs.Buckets.{AreWaits, IsAt}
use Rattle.plan_waits.proofs.waits.all_waits.Given as goal

abbrev pub invariant-loop-j : goal.invariant-loop-j
invariant-loop-j l = record {
  len : length l.waits.items ≡ l.j;
  each : AreWaits l.plan 0 l.waits.items;
  earlier : (i : ℕ) → i < l.j → IsAt l.listed.ids l.listed.writers l.listed.readers l.plan i;
}
