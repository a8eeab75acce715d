-- The map knows the keys so far, and behind them the answer is that of all.
use Rattle.std.proofs.Common.{◌≡◌, [], map, take, drop}
use Rattle.cat_model.specs.Tables.{repeated_after}
use Rattle.row_keys.specs.ByPlaces.{key_at}
use Rattle.row_keys.specs.Known.{IsKnown}
use Rattle.row_keys.proofs.repeating.first_repeated.Given as goal

abbrev pub invariant-loop-i : goal.invariant-loop-i
invariant-loop-i l =
    IsKnown (take l.i (map (key_at l.columns l.places) l.rows)) l.known
    × (repeated_after [] (map (key_at l.columns l.places) l.rows) ≡ repeated_after (take l.i (map (key_at l.columns l.places) l.rows)) (drop l.i (map (key_at l.columns l.places) l.rows)))
