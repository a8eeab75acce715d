use Rattle.graph_walks.proofs.Orders.{told_within}
use Rattle.graph_walks.proofs.Rounds.{told_round, told_some}
use Rattle.graph_walks.proofs.laws.told_cycles_return.Goals as goal

pub returns : goal.returns
returns c = record { round = told_round; told = told_some; within = told_within }
