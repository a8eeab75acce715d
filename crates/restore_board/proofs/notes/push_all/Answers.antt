use Rattle.std.proofs.Common.{◌<◌, ◌++◌, List, length, vec_capacity, ap, arith, ◌∙◌}
use Rattle.std.specs.Vec.Iter.{into_iter_items}
use Rattle.restore_plan.specs.declared.status.Note.{Note}
use Rattle.restore_board.proofs.Counting.{room-left}
use Rattle.restore_board.proofs.notes.push_all.Goals as goal

pub push_reserved-requires : goal.push_reserved-requires
push_reserved-requires c =
    let before = c.args.all.now in
    let whole = c.args.notes.items in
    let less : length c.notes.all.items < vec_capacity before = room-left c.notes.all.items (into_iter_items c.notes.left) before.items whole (into_iter_items c.next.new.self) c.in-Some.note (vec_capacity before) (c.notes.invariant.all ∙ ap (λ (l : List Note). before.items ++ l) c.into_iter-left.ensures.rest) c.in-Some.ensures.items c.requires in
    omega (arith, less, c.notes.invariant.room)
