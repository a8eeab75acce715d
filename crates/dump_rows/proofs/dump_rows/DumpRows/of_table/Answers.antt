use Rattle.std.proofs.Common.{◌≡◌, IfOk, pos, List, map, filter_map, ap, subst, ◌∙◌}
use Rattle.std.specs.List.{slice_get, filter}
use Rattle.cat_rows.specs.declared.catalogue.Catalogue.{Catalogue}
use Rattle.cat_rows.specs.declared.constraints.ConstraintRow.{ConstraintRow}
use Rattle.cat_names.specs.Lookups.{same_oid}
use Rattle.oid_groups.specs.Groups.{group_of}
use Rattle.oid_groups.proofs.Rows.{rows_of_group}
use Rattle.dump_rows.proofs.Found.{by_one_number}
use Rattle.dump_rows.proofs.dump_rows.DumpRows.of_table.Goals as goal

pub returns : goal.returns
returns c =
    let rows = c.self.inside.book.now.pg_constraint in
    let oid = c.args.table in
    subst (λ (rs : List ConstraintRow). IfOk c.rows_at.result (λ found. map (λ r. r.now) found.items ≡ rs))
    (ap (λ (rs : List ConstraintRow). filter_map (slice_get rs) c.group.result.now) (c.as_slice-rows.ensures ∙ ap (λ k. k.pg_constraint) c.tables.ensures)
    ∙ ap (filter_map (slice_get rows)) (c.group.ensures ∙ ap (λ ks. group_of ks oid) c.self.invariant.0.of_tables)
    ∙ rows_of_group (λ (r : ConstraintRow). r.conrelid) (λ (r : ConstraintRow). pos 0) rows oid ∙ by_one_number (filter (λ (r : ConstraintRow). same_oid oid r.conrelid) rows)
    ∙ ap (λ (k : Catalogue). filter (λ (r : ConstraintRow). same_oid oid r.conrelid) k.pg_constraint) c.self.view_is)
    c.rows_at.ensures
