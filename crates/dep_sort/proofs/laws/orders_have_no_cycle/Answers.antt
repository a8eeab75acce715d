use Rattle.dep_sort.specs.Cut.{cut}
use Rattle.dep_sort.proofs.Keeping.{no_cycle}
use Rattle.dep_sort.proofs.Left.{cut_within}
use Rattle.dep_sort.proofs.laws.orders_have_no_cycle.Goals as goal

pub returns : goal.returns
returns c = λ graph order sound is a b need. no_cycle c.reached_is_led_to.ensures.found (cut graph) order (c.orders_are_whole.ensures graph order is) (cut_within graph sound) a b need
