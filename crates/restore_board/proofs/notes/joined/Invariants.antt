-- What is there with what is left is all; the room stays.
use Rattle.std.proofs.Common.{◌≡◌, ◌++◌, length}
use Rattle.std.specs.Vec.{vec_capacity}
use Rattle.std.specs.Vec.Iter.{into_iter_items}
use Rattle.restore_board.specs.Notes.{all_notes, lists_in}
use Rattle.restore_board.proofs.notes.joined.Given as goal

abbrev pub invariant-entries : goal.invariant-entries
invariant-entries l = record {
  all : l.all.items ++ all_notes (lists_in (into_iter_items l.left)) ≡ all_notes (lists_in (into_iter_items l.initial.left));
  room : vec_capacity l.all ≡ vec_capacity l.initial.all;
}

abbrev pub decreases-entries : goal.decreases-entries
decreases-entries l = length (into_iter_items l.left)
