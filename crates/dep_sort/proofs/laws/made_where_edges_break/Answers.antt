use Rattle.dep_sort.proofs.Taking.{made_where}
use Rattle.dep_sort.proofs.laws.made_where_edges_break.Goals as goal

pub returns : goal.returns
returns c = made_where
