-- The places of the columns so far.
use Rattle.std.proofs.Common.{◌≡◌, map, take}
use Rattle.std.specs.List.{position_from}
use Rattle.cat_model.specs.Lexemes.{same_text}
use Rattle.rows_fit.proofs.order.column_places.Given as goal

abbrev pub invariant-loop-column : goal.invariant-loop-column
invariant-loop-column l = l.places.items ≡ map (λ c. position_from (same_text c.name) 0 l.names) (take l.column-index l.columns)
