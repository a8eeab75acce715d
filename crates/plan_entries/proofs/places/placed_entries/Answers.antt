use Rattle.std.proofs.Common.{[]}
use Rattle.std.specs.Vec.Iter.{into_iter_items}
use Rattle.restore_plan.specs.Order.{plan_behind}
use Rattle.plan_entries.proofs.Behind.{goes_on}
use Rattle.plan_entries.proofs.places.placed_entries.Goals as goal

pub entries-preserved : goal.entries-preserved
entries-preserved c =
    let old = c.entries.earlier in
    let new = c.next_planned.new.earlier in
    let e = c.in_ok-next_planned.ensures in
    goes_on old.ids new.ids old.lockable new.lockable old.rows new.rows c.entries.parents c.next_planned.new.parents c.entries.placed.items c.push.new.self.items c.in-Some.entry
    (into_iter_items c.next.new.self) (into_iter_items c.entries.left) c.in_ok-next_planned.field-0 (plan_behind c.args.parents [] c.args.entries.items)
    e.planned e.earlier e.parents c.in_ok-push.ensures.items c.in-Some.ensures.items c.entries.invariant
