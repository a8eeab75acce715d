-- What is there with what is left is what there was with all; the room stays.
use Rattle.std.proofs.Common.{◌≡◌, ◌++◌, length}
use Rattle.std.specs.Vec.{vec_capacity}
use Rattle.std.specs.Vec.Iter.{into_iter_items}
use Rattle.restore_board.proofs.notes.push_all.Given as goal

abbrev pub invariant-notes : goal.invariant-notes
invariant-notes l = record {
  all : l.all.items ++ into_iter_items l.left ≡ l.initial.all.items ++ into_iter_items l.initial.left;
  room : vec_capacity l.all ≡ vec_capacity l.initial.all;
}

abbrev pub decreases-notes : goal.decreases-notes
decreases-notes l = length (into_iter_items l.left)
