use Rattle.ddl_admin.proofs.Common.{◌≡◌, ◌-◌, drop, length, furthers}
use Rattle.ddl_admin.proofs.databases.furthers.Given as goal

-- what is read from the place on is what is read from the first
abbrev pub invariant-options : goal.invariant-options
invariant-options l = furthers.read (drop l.from l.pieces) ≡ furthers.read (drop l.at l.pieces)

abbrev pub decreases-options : goal.decreases-options
decreases-options l = length l.pieces - l.at
