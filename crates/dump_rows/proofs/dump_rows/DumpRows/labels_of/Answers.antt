use Rattle.std.proofs.Common.{◌≡◌, IfOk, List, map, filter_map, ap, subst, ◌∙◌}
use Rattle.std.specs.List.{slice_get, filter}
use Rattle.cat_rows.specs.declared.catalogue.Catalogue.{Catalogue}
use Rattle.cat_rows.specs.declared.types.EnumRow.{EnumRow}
use Rattle.cat_names.specs.Lookups.{same_oid}
use Rattle.oid_groups.specs.Groups.{group_of}
use Rattle.oid_groups.specs.Orders.{by_number}
use Rattle.oid_groups.proofs.Rows.{rows_of_group}
use Rattle.dump_rows.proofs.dump_rows.DumpRows.labels_of.Goals as goal

pub returns : goal.returns
returns c =
    let rows = c.self.inside.book.now.pg_enum in
    let oid = c.args.of in
    subst (λ (rs : List EnumRow). IfOk c.rows_at.result (λ found. map (λ r. r.now) found.items ≡ rs))
    (ap (λ (rs : List EnumRow). filter_map (slice_get rs) c.group.result.now) (c.as_slice-rows.ensures ∙ ap (λ k. k.pg_enum) c.tables.ensures)
    ∙ ap (filter_map (slice_get rows)) (c.group.ensures ∙ ap (λ ks. group_of ks oid) c.self.invariant.0.labels)
    ∙ rows_of_group (λ (r : EnumRow). r.enumtypid) (λ (r : EnumRow). r.enumpos) rows oid
    ∙ ap (λ (k : Catalogue). by_number (λ (r : EnumRow). r.enumpos) (filter (λ (r : EnumRow). same_oid oid r.enumtypid) k.pg_enum)) c.self.view_is)
    c.rows_at.ensures
