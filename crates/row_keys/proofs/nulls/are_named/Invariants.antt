-- The columns so far.
use Rattle.std.proofs.Common.{◌≡◌, map, take}
use Rattle.std.specs.List.{list_any}
use Rattle.cat_model.specs.Lexemes.{same_text}
use Rattle.row_keys.proofs.nulls.are_named.Given as goal

abbrev pub invariant-loop-column : goal.invariant-loop-column
invariant-loop-column l = l.named.items ≡ map (λ c. list_any (same_text c.name) l.names) (take l.column-index l.columns)
