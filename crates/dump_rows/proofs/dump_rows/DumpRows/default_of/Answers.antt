use Rattle.std.proofs.Common.{ap, sym, ◌∙◌}
use Rattle.std.specs.List.{slice_get}
use Rattle.std.specs.Option.{option_and_then}
use Rattle.cat_rows.specs.declared.relations.AttrdefRow.{AttrdefRow}
use Rattle.cat_names.specs.Lookups.{place_of}
use Rattle.dump_rows.specs.Rows.{default_of}
use Rattle.dump_rows.proofs.Found.{row_at_place}
use Rattle.dump_rows.proofs.dump_rows.DumpRows.default_of.Goals as goal

pub returns : goal.returns
returns c =
    let rows = c.self.inside.book.now.pg_attrdef in
    c.row_at.ensures
    ∙ ap (λ rs. option_and_then (slice_get rs) c.find.result) (c.as_slice-rows.ensures ∙ ap (λ k. k.pg_attrdef) c.tables.ensures)
    ∙ ap (option_and_then (slice_get rows)) (c.find.ensures ∙ ap (place_of c.args.oid) c.self.invariant.1.defaults)
    ∙ sym (row_at_place (λ (r : AttrdefRow). r.oid) rows c.args.oid)
    ∙ ap (λ k. default_of k c.args.oid) c.self.view_is
