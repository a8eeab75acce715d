use Rattle.std.proofs.Common.{ap, sym, ◌∙◌}
use Rattle.std.specs.List.{slice_get}
use Rattle.std.specs.Option.{option_and_then}
use Rattle.cat_rows.specs.declared.relations.RewriteRow.{RewriteRow}
use Rattle.cat_names.specs.Lookups.{place_of}
use Rattle.dump_rows.specs.Rows.{view_rewrite}
use Rattle.dump_rows.proofs.Found.{row_at_place}
use Rattle.dump_rows.proofs.dump_rows.DumpRows.view_rewrite.Goals as goal

pub returns : goal.returns
returns c =
    let rows = c.self.inside.book.now.pg_rewrite in
    c.row_at.ensures
    ∙ ap (λ rs. option_and_then (slice_get rs) c.find.result) (c.as_slice-rows.ensures ∙ ap (λ k. k.pg_rewrite) c.tables.ensures)
    ∙ ap (option_and_then (slice_get rows)) (c.find.ensures ∙ ap (place_of c.args.view) c.self.invariant.1.views)
    ∙ sym (row_at_place (λ (r : RewriteRow). r.ev_class) rows c.args.view)
    ∙ ap (λ k. view_rewrite k c.args.view) c.self.view_is
