-- The examples are computed.
use Rattle.std.proofs.Common.{refl}
use Rattle.graph_walks.specs.Reaching.{needed_next, found_from, reaches, on_cycle}
use Rattle.graph_walks.specs.Filling.{is_free, last_free, without, filled, order_of}
use Rattle.graph_walks.specs.Telling.{off, first_on_cycle, next_on_path, rest_of_path, told_cycle}
use Rattle.dep_sort.specs.FirstOrder.{first_cmp, id_cmp, placed, in_order, first_places, id_places, stands_at, renumbered}
use Rattle.dep_sort.specs.Cut.{breaks_if, breaks, made_at, made_once, made_by, taker, moved_arcs, places_of, bound_arcs, without_body, made_of, cut}
use Rattle.dep_sort.specs.Ordering.{final_places, depends_of, sorted, told_places, loop_of, due_if, due}
use Rattle.dep_sort.proofs.laws.worked_examples.Goals as goal

pub returns-clause-orders : goal.returns-clause-orders
unfolding needed_next found_from reaches on_cycle is_free last_free without filled order_of off first_on_cycle next_on_path rest_of_path told_cycle first_cmp id_cmp placed in_order first_places id_places stands_at renumbered breaks_if breaks made_at made_once made_by taker moved_arcs places_of bound_arcs without_body made_of cut final_places depends_of sorted told_places loop_of due_if due
returns-clause-orders c = record { two_tables_is = refl; serial_column_is = refl; two_views_is = refl; grouped_view_is = refl; one_reader_is = refl }

pub returns-clause-cuts : goal.returns-clause-cuts
unfolding needed_next found_from reaches on_cycle is_free last_free without filled order_of first_cmp placed in_order first_places stands_at renumbered breaks_if breaks made_at made_once made_by taker moved_arcs places_of bound_arcs without_body made_of cut final_places depends_of sorted
returns-clause-cuts c = record { default_needs = refl; rule_needs = refl; no_bodies = refl; whole_body = refl; shared_is_kept = refl }

pub returns-clause-loops : goal.returns-clause-loops
unfolding needed_next found_from reaches on_cycle is_free last_free without filled order_of off first_on_cycle next_on_path rest_of_path told_cycle first_cmp id_cmp placed in_order first_places id_places stands_at renumbered breaks_if breaks made_at made_once made_by taker moved_arcs places_of bound_arcs without_body made_of cut final_places depends_of sorted told_places loop_of due_if due
returns-clause-loops c = record { two_types_is = refl }
