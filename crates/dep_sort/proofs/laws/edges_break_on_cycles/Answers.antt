use Rattle.dep_sort.proofs.Keeping.{breaks_where}
use Rattle.dep_sort.proofs.laws.edges_break_on_cycles.Goals as goal

pub returns : goal.returns
returns c = breaks_where c.reached_is_led_to.ensures.found c.reached_is_led_to.ensures.all
