use Rattle.std.proofs.Common.{subst}
use Rattle.dep_sort.specs.Cut.{cut}
use Rattle.dep_sort.specs.Ordering.{Sorted}
use Rattle.dep_sort.specs.Sound.{IsOrder}
use Rattle.dep_sort.proofs.Keeping.{KeepsNeeds, order_due, is_order}
use Rattle.dep_sort.proofs.laws.orders_are_whole.Goals as goal

pub returns : goal.returns
returns c =
    let laws = c.orders_keep_needs.ensures in
    let keeps : KeepsNeeds = record { behind = laws.behind; distinct = laws.distinct; among = laws.among; whole = laws.whole } in
    λ graph order is. let parts = order_due graph order is in subst (λ (s : Sorted). IsOrder (cut graph) s) parts.1 (is_order keeps (cut graph) parts.0)
