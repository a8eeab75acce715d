use Rattle.std.proofs.Common.{◌≡◌, map}
use Rattle.std.specs.Prelude.{nat_eq}
use Rattle.std.specs.List.{dedup, range_with_len}
use Rattle.graph_walks.specs.Arcs.{arcs_from}
use Rattle.dep_sort.proofs.ordering.all_ends.Given as goal

abbrev pub invariant-loop-place : goal.invariant-loop-place
invariant-loop-place l = map (λ e. e.items) l.ends.items ≡ map (λ place. dedup nat_eq (map (λ arc. arc.1) (arcs_from place l.net.arcs))) (range_with_len 0 l.place)
