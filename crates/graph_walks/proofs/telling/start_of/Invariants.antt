use Rattle.std.proofs.Common.{◌≡◌, ℕ, ◌<◌, false}
use Rattle.std.specs.Prelude.{◌&&◌, nat_eq}
use Rattle.std.specs.List.{list_any}
use Rattle.graph_walks.specs.Reaching.{on_cycle}
use Rattle.graph_walks.proofs.telling.start_of.Given as goal

abbrev pub invariant-loop-place : goal.invariant-loop-place
invariant-loop-place l = (x : ℕ) → x < l.place → list_any (λ arc. nat_eq arc.0 x && on_cycle l.arcs.arcs arc) l.arcs.arcs ≡ false
