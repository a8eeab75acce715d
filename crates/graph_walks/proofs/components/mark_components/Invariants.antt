use Rattle.std.proofs.Common.{◌≡◌, ℕ, ◌<◌, true, length}
use Rattle.graph_walks.specs.Searching.{IsSearch, standing, none_seen, shut}
use Rattle.graph_walks.proofs.components.mark_components.Given as goal

abbrev pub invariant-loop-place : goal.invariant-loop-place
invariant-loop-place l = record {
  stands : IsSearch l.arcs none_seen (standing l.search);
  empty : length l.search.groups.items ≡ 0;
  closed : (x : ℕ) → x < l.place → shut l.search.statuses.items x ≡ true;
}
