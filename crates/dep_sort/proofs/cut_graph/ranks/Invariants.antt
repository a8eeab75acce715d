use Rattle.std.proofs.Common.{◌≡◌, ℕ, ◌<◌, ◌≤◌, length, get_or, drop}
use Rattle.std.specs.Prelude.{nat_eq, unwrap_or}
use Rattle.std.specs.List.{position_from}
use Rattle.dep_sort.proofs.cut_graph.ranks.Given as goal

abbrev pub invariant-loop-at : goal.invariant-loop-at
invariant-loop-at l = record {
  count : length l.ranks.items ≡ length l.places;
  each : (place : ℕ) → place < length l.places → get_or l.ranks.items place 0 ≡ unwrap_or (position_from (nat_eq place) l.at (drop l.at l.places)) 0;
  within : l.at ≤ length l.places;
}

abbrev pub decreases-loop-at : goal.decreases-loop-at
decreases-loop-at l = l.at
