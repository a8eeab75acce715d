use Rattle.std.proofs.Common.{◌≡◌, ℕ, ◌<◌, false, length, get_or, take}
use Rattle.std.specs.Prelude.{◌&&◌, nat_eq}
use Rattle.std.specs.List.{list_any}
use Rattle.dep_sort.specs.Cut.{breaks}
use Rattle.dep_sort.proofs.cut.bodiless.Given as goal

abbrev pub invariant-loop-at : goal.invariant-loop-at
invariant-loop-at l = record {
  count : length l.bodiless.items ≡ l.count;
  each : (place : ℕ) → place < l.count → get_or l.bodiless.items place false ≡ list_any (λ edge. nat_eq edge.from place && breaks l.edges edge) (take l.at l.edges);
}
