-- Each of the fields so far is taken.
use Rattle.std.proofs.Common.{◌≡◌, ◌+◌, ℕ, List, map, drop}
use Rattle.std.specs.Option.{option_map}
use Rattle.cat_model.specs.CopiedRows.{no_null, fields_cause}
use Rattle.plain_rows.proofs.fitting.fields_fit.Given as goal

abbrev pub invariant-loop-i : goal.invariant-loop-i
invariant-loop-i l = (primary : List (List ℕ)) (row : ℕ) → l.required ≡ map (no_null primary) l.columns
    → fields_cause primary row 1 l.columns (map (λ f. option_map (λ t. t.now) f) l.fields) ≡ fields_cause primary row (l.i + 1) (drop l.i l.columns) (drop l.i (map (λ f. option_map (λ t. t.now) f) l.fields))
