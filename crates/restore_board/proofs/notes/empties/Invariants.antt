-- So many empty lists there are.
use Rattle.std.proofs.Common.{◌≡◌, [], replicate}
use Rattle.restore_board.specs.Notes.{lists_in}
use Rattle.restore_board.proofs.notes.empties.Given as goal

abbrev pub invariant-loop : goal.invariant-loop
invariant-loop l = lists_in l.lists.items ≡ replicate l.counter []
