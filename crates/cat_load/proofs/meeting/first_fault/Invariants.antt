-- The tables so far have no fault, and the catalogue is as it was.
use Rattle.std.proofs.Common.{◌≡◌, drop}
use Rattle.cat_load.specs.Loads.{first_fault}
use Rattle.cat_load.proofs.meeting.first_fault.Given as goal

abbrev pub invariant-loop-i : goal.invariant-loop-i
invariant-loop-i l =
    (first_fault l.fn.named l.book l.rows l.tables ≡ first_fault l.fn.named l.book l.rows (drop l.i l.tables)) × (l.named ≡ l.fn.named)
