use Rattle.dep_sort.proofs.Taking.{edges_kept}
use Rattle.dep_sort.proofs.laws.edges_are_kept.Goals as goal

pub returns : goal.returns
returns c = edges_kept
