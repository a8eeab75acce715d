use Rattle.std.proofs.Common.{◌≡◌, IfOk, List, map, filter_map, ap, subst, ◌∙◌}
use Rattle.std.specs.List.{slice_get, filter}
use Rattle.cat_rows.specs.declared.catalogue.Catalogue.{Catalogue}
use Rattle.cat_rows.specs.declared.relations.AttributeRow.{AttributeRow}
use Rattle.cat_names.specs.Lookups.{same_oid}
use Rattle.oid_groups.specs.Groups.{group_of}
use Rattle.oid_groups.specs.Orders.{by_number}
use Rattle.oid_groups.proofs.Rows.{rows_of_group}
use Rattle.dump_rows.proofs.dump_rows.DumpRows.columns_of.Goals as goal

pub returns : goal.returns
returns c =
    let rows = c.self.inside.book.now.pg_attribute in
    let oid = c.args.relation in
    subst (λ (rs : List AttributeRow). IfOk c.rows_at.result (λ found. map (λ r. r.now) found.items ≡ rs))
    (ap (λ (rs : List AttributeRow). filter_map (slice_get rs) c.group.result.now) (c.as_slice-rows.ensures ∙ ap (λ k. k.pg_attribute) c.tables.ensures)
    ∙ ap (filter_map (slice_get rows)) (c.group.ensures ∙ ap (λ ks. group_of ks oid) c.self.invariant.0.columns)
    ∙ rows_of_group (λ (r : AttributeRow). r.attrelid) (λ (r : AttributeRow). r.attnum) rows oid
    ∙ ap (λ (k : Catalogue). by_number (λ (r : AttributeRow). r.attnum) (filter (λ (r : AttributeRow). same_oid oid r.attrelid) k.pg_attribute)) c.self.view_is)
    c.rows_at.ensures
