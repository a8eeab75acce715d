use Rattle.dep_sort.proofs.Taking.{on_its_side}
use Rattle.dep_sort.proofs.laws.made_stand_on_their_side.Goals as goal

pub returns : goal.returns
returns c = on_its_side
