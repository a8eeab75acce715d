use Rattle.graph_walks.proofs.Orders.{order_behind, order_distinct, order_among, cycle_out}
use Rattle.graph_walks.proofs.Whole.{order_whole}
use Rattle.graph_walks.proofs.laws.orders_keep_needs.Goals as goal

pub returns : goal.returns
returns c = record { behind = order_behind; distinct = order_distinct; among = order_among; no_cycle = cycle_out; whole = order_whole }
