use Rattle.std.proofs.Common.{◌≡◌, ℕ, true, false}
use Rattle.graph_walks.specs.Searching.{IsSearch, standing, none_seen, status_of, shut, is_new, work}
use Rattle.graph_walks.proofs.components.Search.finish.Given as goal

abbrev pub invariant-loop-group : goal.invariant-loop-group
invariant-loop-group l = record {
  stands : IsSearch l.arcs none_seen (standing l.self);
  come : (x : ℕ) → is_new (status_of l.fn.self.statuses.items x) ≡ false → is_new (status_of l.self.statuses.items x) ≡ false;
  kept : (x : ℕ) → shut l.fn.self.statuses.items x ≡ true → shut l.self.statuses.items x ≡ true;
}

abbrev pub decreases-loop-group : goal.decreases-loop-group
decreases-loop-group l = work l.arcs (standing l.self)
