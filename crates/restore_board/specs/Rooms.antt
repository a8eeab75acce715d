-- What the notes of a board keep: how many there are, and an empty list with room for all.
use Rattle.std.specs.Prelude.{◌≡◌, ℕ, ◌≤◌, List, [], length}
use Rattle.std.specs.Global.{Vec}
use Rattle.restore_plan.specs.declared.status.Note.{Note}
use Rattle.restore_board.specs.Notes.{all_notes, lists_in}

pub record HasRoom (lists : List (Vec Note)) (many : ℕ) (all : List Note) (room : ℕ) : Type 0 where
  pub counted : many ≡ length (all_notes (lists_in lists))
  pub empty : all ≡ []
  pub fits : many ≤ room
