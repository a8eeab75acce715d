use Rattle.std.proofs.Common.{◌≡◌, ℕ, ◌<◌, length, take, get_or}
use Rattle.graph_walks.specs.Counting.{ending}
use Rattle.graph_walks.proofs.filling.count_ends.Given as goal

abbrev pub invariant-loop-arc : goal.invariant-loop-arc
invariant-loop-arc l = record {
  count : length l.counts.items ≡ l.arcs.count;
  each : (place : ℕ) → place < l.arcs.count → get_or l.counts.items place 0 ≡ ending (take l.arc-index l.arc-items) place;
}
