-- What the entries so far wait for is listed.
use Rattle.std.proofs.Common.{◌≡◌, length}
use Rattle.restore_queue.proofs.Listing.{AreListed}
use Rattle.restore_queue.proofs.behind.behind_all.Given as goal

abbrev pub invariant-loop-i : goal.invariant-loop-i
invariant-loop-i l = record {
  len : length l.behind.items ≡ length l.waits;
  listed : AreListed l.waits l.behind.items l.i;
}
