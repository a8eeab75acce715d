use Rattle.std.proofs.Common.{◌≡◌, [], drop}
use Rattle.dep_sort.specs.Cut.{made_by}
use Rattle.dep_sort.proofs.made.Made.of.Given as goal

abbrev pub invariant-loop-place : goal.invariant-loop-place
invariant-loop-place l = made_by l.edges (drop l.place l.edges) l.made ≡ made_by l.edges l.edges []
