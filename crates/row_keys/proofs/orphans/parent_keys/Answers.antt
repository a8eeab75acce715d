-- The set has one more key, and at the end all.
use Rattle.std.proofs.Common.{◌≡◌, ◌+◌, ◌<◌, List, [], ◌∷◌, ◌++◌, Option, Some, length, map, take, ap, sym, ◌∙◌, arith}
use Rattle.std.specs.List.{list_any}
use Rattle.cat_model.specs.Values.{Bytes}
use Rattle.cat_model.specs.Tables.{same_key}
use Rattle.row_keys.specs.ByPlaces.{key_at}
use Rattle.row_keys.proofs.Rows.{one_taken, all_taken}
use Rattle.row_keys.proofs.orphans.parent_keys.Goals as goal

pub loop-i-preserved : goal.loop-i-preserved
loop-i-preserved c = λ q.
    let key = key_at c.args.columns.now c.args.places.now in
    let rows = c.args.rows.now in
    let i = c.loop-i.i in
    let below : i < length rows = omega arith in
    let one : take i (map key rows) ++ c.in_ok-key.key ∷ [] ≡ take (i + 1) (map key rows) =
    ap (λ (k : Option (List Bytes)). take i (map key rows) ++ k ∷ []) c.in_ok-key.ensures ∙ sym (one_taken key rows i c.row.result.now below c.row.ensures) in
    c.in_ok-add_parent.ensures (take i (map key rows)) c.loop-i.invariant q ∙ ap (list_any (same_key (Some q))) one

pub returns : goal.returns
returns c = λ q.
    c.loop-i.invariant q
    ∙ ap (list_any (same_key (Some q))) (all_taken (key_at c.args.columns.now c.args.places.now) c.args.rows.now c.loop-i.i (omega arith))
