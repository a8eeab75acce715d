use Rattle.std.proofs.Common.{option_and_then, ap, ◌∙◌, arith, List}
use Rattle.std.specs.List.{filter_map, slice_get}
use Rattle.cat_rows.specs.declared.relations.AttributeRow.{AttributeRow}
use Rattle.cat_naming.specs.Relations.{column_of}
use Rattle.cat_naming.proofs.Places.{place_more, places_all, columns_listed}
use Rattle.cat_naming.proofs.columns.columns_of.Goals as goal

pub loop-place-preserved : goal.loop-place-preserved
loop-place-preserved c =
    place_more (λ p. option_and_then (column_of c.args.lookups.now) (slice_get c.as_slice-rows.result.now p)) _ _ c.in_ok-column.column c.column_places-place-items.result.now c.loop-place.place-index _ c.loop-place.invariant c.in_ok-push_column.ensures c.in_ok-column.ensures c.loop-place-test.true

pub returns : goal.returns
returns c =
    let rows = c.as_slice-rows.ensures ∙ ap (λ t. t.pg_attribute) c.tables.ensures in
    places_all (λ p. option_and_then (column_of c.args.lookups.now) (slice_get c.as_slice-rows.result.now p)) _ c.column_places-place-items.result.now c.loop-place.place-index c.loop-place.invariant (omega (arith, c.loop-place-test.false))
    ∙ ap (λ (rs : List AttributeRow). filter_map (λ p. option_and_then (column_of c.args.lookups.now) (slice_get rs p)) c.column_places-place-items.result.now) rows
    ∙ columns_listed c.args.lookups.now c.args.table c.column_places-place-items.result.now c.column_places-place-items.ensures
