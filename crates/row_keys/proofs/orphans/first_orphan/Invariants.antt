-- None of the rows so far is an orphan.
use Rattle.std.proofs.Common.{◌≡◌, ◌+◌, ℕ, List, Option, map, drop}
use Rattle.cat_model.specs.Tables.{orphan_of}
use Rattle.row_keys.specs.ByPlaces.{key_at}
use Rattle.row_keys.specs.Known.{AreAmong}
use Rattle.row_keys.proofs.orphans.first_orphan.Given as goal

abbrev pub invariant-loop-i : goal.invariant-loop-i
invariant-loop-i l = (keys : List (Option (List (List ℕ)))) → AreAmong keys l.parents
    → orphan_of 1 keys (map (key_at l.columns l.places) l.rows) ≡ orphan_of (l.i + 1) keys (drop l.i (map (key_at l.columns l.places) l.rows))
