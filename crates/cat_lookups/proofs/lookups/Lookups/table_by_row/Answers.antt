use Rattle.std.proofs.Common.{option_map, ap, sym, ◌∙◌}
use Rattle.std.specs.List.{find, slice_get}
use Rattle.std.specs.Option.{option_and_then}
use Rattle.cat_names.specs.Lookups.{same_oid, place_of}
use Rattle.cat_rows.specs.declared.catalogue.Catalogue.{Catalogue}
use Rattle.cat_rows.specs.declared.relations.IndexRow.{IndexRow}
use Rattle.cat_lookups.proofs.Finding.{row_at_place}
use Rattle.cat_lookups.proofs.lookups.Lookups.table_by_row.Goals as goal

pub returns-in-Some : goal.returns-in-Some
returns-in-Some c =
    let rows = c.self.inside.cat.now.pg_index in
    let oid = c.args.oid in
    c.table_at.ensures
    ∙ ap (λ rs. option_map (λ (i : IndexRow). i.indrelid) (slice_get rs c.in-Some.place)) c.as_slice.ensures
    ∙ ap (λ p. option_map (λ (i : IndexRow). i.indrelid) (option_and_then (slice_get rows) p)) (sym c.in-Some.is ∙ c.find.ensures ∙ ap (place_of oid) c.self.invariant.of_indexes)
    ∙ ap (option_map (λ (i : IndexRow). i.indrelid)) (sym (row_at_place (λ (i : IndexRow). i.indexrelid) rows oid))
    ∙ ap (λ (k : Catalogue). option_map (λ (i : IndexRow). i.indrelid) (find (λ (i : IndexRow). same_oid oid i.indexrelid) k.pg_index)) c.self.view_is

pub returns-in-None : goal.returns-in-None
returns-in-None c =
    let rows = c.self.inside.cat.now.pg_index in
    let oid = c.args.oid in
    ap (λ p. option_map (λ (i : IndexRow). i.indrelid) (option_and_then (slice_get rows) p)) (sym c.in-None.is ∙ c.find.ensures ∙ ap (place_of oid) c.self.invariant.of_indexes)
    ∙ ap (option_map (λ (i : IndexRow). i.indrelid)) (sym (row_at_place (λ (i : IndexRow). i.indexrelid) rows oid))
    ∙ ap (λ (k : Catalogue). option_map (λ (i : IndexRow). i.indrelid) (find (λ (i : IndexRow). same_oid oid i.indexrelid) k.pg_index)) c.self.view_is
