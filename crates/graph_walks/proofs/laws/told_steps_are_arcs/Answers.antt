use Rattle.graph_walks.proofs.Orders.{told_steps}
use Rattle.graph_walks.proofs.laws.told_steps_are_arcs.Goals as goal

pub returns : goal.returns
returns c = told_steps
