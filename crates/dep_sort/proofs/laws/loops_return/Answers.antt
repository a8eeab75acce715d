use Rattle.std.proofs.Common.{List, subst}
use Rattle.graph_parts.specs.declared.object.ObjId.{ObjId}
use Rattle.dep_sort.specs.Cut.{cut}
use Rattle.dep_sort.specs.Sound.{IsLoop}
use Rattle.dep_sort.proofs.Keeping.{KeepsNeeds, loop_due}
use Rattle.dep_sort.proofs.Left.{cut_within}
use Rattle.dep_sort.proofs.Looping.{FindsLed, TellsCycles, is_loop}
use Rattle.dep_sort.proofs.laws.loops_return.Goals as goal

pub returns : goal.returns
returns c =
    let laws = c.orders_keep_needs.ensures in
    let cycles = c.told_cycles_return.ensures in
    let keeps : KeepsNeeds = record { behind = laws.behind; distinct = laws.distinct; among = laws.among; whole = laws.whole } in
    let finds : FindsLed = record { found = c.reached_is_led_to.ensures.found; all = c.reached_is_led_to.ensures.all } in
    let tells : TellsCycles = record { steps = c.told_steps_are_arcs.ensures; round = cycles.round; told = cycles.told; within = cycles.within } in
    λ graph path sound is. let parts = loop_due graph path is in subst (λ (l : List ObjId). IsLoop (cut graph) l) parts.1 (is_loop keeps finds tells (cut graph) (cut_within graph sound) parts.0)
