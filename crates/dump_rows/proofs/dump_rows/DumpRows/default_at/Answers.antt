use Rattle.std.proofs.Common.{◌≡◌, ap, ◌∙◌, to_z, of_z, w64, rules}
use Rattle.std.proofs.lemmas.Int.{to_z-of_z}
use Rattle.std.specs.List.{slice_get}
use Rattle.std.specs.Option.{option_and_then}
use Rattle.cat_rows.specs.declared.relations.AttrdefRow.{AttrdefRow}
use Rattle.oid_groups.specs.Groups.{first_place}
use Rattle.oid_groups.proofs.Rows.{row_at_first}
use Rattle.dump_rows.specs.Rows.{default_at}
use Rattle.dump_rows.proofs.dump_rows.DumpRows.default_at.Goals as goal

pub returns : goal.returns
returns c =
    let rows = c.self.inside.book.now.pg_attrdef in
    let oid = c.args.table in
    let number = c.args.number in
    let back : to_z w64 (of_z w64 number) ≡ number = to_z-of_z w64 number (search rules) in
    c.row_at.ensures
    ∙ ap (λ rs. option_and_then (slice_get rs) c.first.result) (c.as_slice-rows.ensures ∙ ap (λ k. k.pg_attrdef) c.tables.ensures)
    ∙ ap (option_and_then (slice_get rows)) (c.first.ensures ∙ ap (first_place c.self.inside.groups.defaults oid) back ∙ ap (λ ks. first_place ks oid number) c.self.invariant.0.defaults)
    ∙ row_at_first (λ (r : AttrdefRow). r.adrelid) (λ (r : AttrdefRow). r.adnum) rows oid number
    ∙ ap (λ k. default_at k oid number) c.self.view_is
