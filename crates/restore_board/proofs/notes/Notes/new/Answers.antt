use Rattle.restore_board.proofs.Counting.{room-none}
use Rattle.restore_board.proofs.notes.Notes.new.Goals as goal

pub invariant_of-result : goal.invariant_of-result
invariant_of-result c = room-none _ c.args.many _ _ c.in_ok-lists.ensures c.new.ensures.items
