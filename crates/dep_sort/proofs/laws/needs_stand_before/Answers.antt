use Rattle.dep_sort.specs.Cut.{cut}
use Rattle.dep_sort.proofs.Keeping.{needs_before}
use Rattle.dep_sort.proofs.laws.needs_stand_before.Goals as goal

pub returns : goal.returns
returns c = λ graph order is i low. needs_before (cut graph) order (c.orders_are_whole.ensures graph order is) i low
