-- The bases so far are those of the rows so far.
use Rattle.std.proofs.Common.{◌≡◌, map, take}
use Rattle.std.specs.List.{enumerate_from}
use Rattle.type_ends.specs.Steps.{base_at_place}
use Rattle.type_ends.proofs.bases.bases.Given as goal

abbrev pub invariant-loop-place : goal.invariant-loop-place
invariant-loop-place l = l.bases.items ≡ map (λ e. base_at_place l.book e.0 e.1) (enumerate_from 0 (take l.place l.rows))
