-- The row has the key of an earlier one, or its key is new.
use Rattle.std.proofs.Common.{◌≡◌, ◌+◌, ◌<◌, List, [], ◌∷◌, ◌++◌, Option, Some, None, length, map, take, drop, ap, sym, ◌∙◌, arith}
use Rattle.cat_model.specs.Values.{Bytes}
use Rattle.cat_model.specs.Tables.{pair_or, repeated_after, place_of}
use Rattle.row_keys.specs.ByPlaces.{key_at}
use Rattle.row_keys.proofs.Rows.{from_none, one_taken, counted, one_row}
use Rattle.row_keys.proofs.repeating.first_repeated.Goals as goal

pub returns-in-Some : goal.returns-in-Some
returns-in-Some c =
    let key = key_at c.args.columns.now c.args.places.now in
    let rows = c.args.rows.now in
    let row = c.row.result.now in
    let i = c.loop-i.i in
    let before = take i (map key rows) in
    let later = repeated_after (take (i + 1) (map key rows)) (drop (i + 1) (map key rows)) in
    let below : i < length rows = omega arith in
    let there : place_of 1 (key row) before ≡ Some c.in-Some.first =
    ap (λ (k : Option (List Bytes)). place_of 1 k before) (sym c.in_ok-key.ensures) ∙ sym (c.in_ok-first.ensures.first before c.loop-i.invariant.0) ∙ c.in-Some.is in
    sym (c.loop-i.invariant.1 ∙ one_row key rows i row below c.row.ensures ∙ ap (pair_or later (i + 1)) there)

pub loop-i-preserved : goal.loop-i-preserved
loop-i-preserved c =
    let key = key_at c.args.columns.now c.args.places.now in
    let rows = c.args.rows.now in
    let row = c.row.result.now in
    let i = c.loop-i.i in
    let before = take i (map key rows) in
    let later = repeated_after (take (i + 1) (map key rows)) (drop (i + 1) (map key rows)) in
    let below : i < length rows = omega arith in
    let new : place_of 1 (key row) before ≡ None =
    ap (λ (k : Option (List Bytes)). place_of 1 k before) (sym c.in_ok-key.ensures) ∙ sym (c.in_ok-first.ensures.first before c.loop-i.invariant.0) ∙ c.in_default.is in
    let one : before ++ c.in_ok-key.key ∷ [] ≡ take (i + 1) (map key rows) =
    ap (λ (k : Option (List Bytes)). before ++ k ∷ []) c.in_ok-key.ensures ∙ sym (one_taken key rows i row below c.row.ensures) in (
      λ q. from_none c.in_ok-first.field-0 c.in_default.is (c.in_ok-first.ensures.known before c.loop-i.invariant.0 (counted key rows i row below c.row.ensures)) q ∙ ap (place_of 1 (Some q)) one,
      c.loop-i.invariant.1 ∙ one_row key rows i row below c.row.ensures ∙ ap (pair_or later (i + 1)) new,
    )
