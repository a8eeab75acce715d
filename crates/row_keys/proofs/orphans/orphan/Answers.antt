-- The keys by places are the keys by names.
use Rattle.std.proofs.Common.{◌≡◌, ℕ, List, Option, map, ap, ◌∙◌}
use Rattle.cat_model.specs.Tables.{key_on, orphan_of}
use Rattle.row_keys.specs.ByPlaces.{key_at}
use Rattle.row_keys.proofs.Rows.{by_names}
use Rattle.row_keys.proofs.orphans.orphan.Goals as goal

pub returns : goal.returns
returns c =
    let a = c.args in
    let parents : map (key_at a.parent_columns.now c.deref.result.now) a.parent_rows.now ≡ map (key_on a.parent_columns.now a.parent_names.now) a.parent_rows.now =
    ap (λ (places : List (Option ℕ)). map (key_at a.parent_columns.now places) a.parent_rows.now) (c.deref.ensures.value ∙ c.in_ok-parent_places.ensures) ∙ by_names a.parent_columns.now a.parent_names.now a.parent_rows.now in
    let rows : map (key_at a.columns.now c.deref-2.result.now) a.rows.now ≡ map (key_on a.columns.now a.names.now) a.rows.now =
    ap (λ (places : List (Option ℕ)). map (key_at a.columns.now places) a.rows.now) (c.deref-2.ensures.value ∙ c.in_ok-places.ensures) ∙ by_names a.columns.now a.names.now a.rows.now in
    c.in_ok-first_orphan.ensures (map (key_at a.parent_columns.now c.deref.result.now) a.parent_rows.now) c.in_ok-parents.ensures ∙ (λ i. orphan_of 1 (parents i) (rows i))
