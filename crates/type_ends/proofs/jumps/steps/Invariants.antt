-- The steps so far are those of the rows so far.
use Rattle.std.proofs.Common.{◌≡◌, take}
use Rattle.type_ends.specs.Steps.{steps_among}
use Rattle.type_ends.proofs.jumps.steps.Given as goal

abbrev pub invariant-loop-place : goal.invariant-loop-place
invariant-loop-place l = l.steps.items ≡ steps_among l.oids (take l.place l.rows)
