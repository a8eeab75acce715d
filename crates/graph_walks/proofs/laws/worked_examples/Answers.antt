-- The examples are computed.
use Rattle.std.proofs.Common.{refl}
use Rattle.graph_walks.specs.Reaching.{needed_next, found_from, reaches, on_cycle}
use Rattle.graph_walks.specs.Filling.{is_free, last_free, without, filled, order_of}
use Rattle.graph_walks.specs.Telling.{off, first_on_cycle, next_on_path, rest_of_path, told_cycle}
use Rattle.graph_walks.proofs.laws.worked_examples.Goals as goal

pub returns-clause-reached : goal.returns-clause-reached
unfolding needed_next found_from reaches on_cycle
returns-clause-reached c =
    record { itself = refl; far = refl; not_back = refl; round = refl; into_a_cycle = refl; out_of_a_cycle = refl }

pub returns-clause-orders : goal.returns-clause-orders
unfolding is_free last_free without filled order_of
returns-clause-orders c =
    record { as_they_stand = refl; needed_first = refl; chain = refl; needed_twice = refl; stuck = refl }

pub returns-clause-cycles : goal.returns-clause-cycles
unfolding needed_next found_from reaches on_cycle off first_on_cycle next_on_path rest_of_path told_cycle
returns-clause-cycles c =
    record { none = refl; one = refl; lowest_next = refl; no_dead_end = refl; pair = refl }
