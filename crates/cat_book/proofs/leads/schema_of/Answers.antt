use Rattle.std.proofs.Common.{ap, sym, ◌∙◌}
use Rattle.std.specs.List.{slice_get}
use Rattle.std.specs.Option.{option_and_then}
use Rattle.cat_rows.specs.declared.schemas.NamespaceRow.{NamespaceRow}
use Rattle.cat_names.specs.Lookups.{place_of}
use Rattle.cat_book.proofs.Placed.{row_at_place}
use Rattle.cat_book.proofs.leads.schema_of.Goals as goal

pub returns : goal.returns
returns c =
    let rows = c.args.rows.now in
    c.row_at.ensures
    ∙ ap (option_and_then (slice_get rows)) (c.find.ensures ∙ ap (place_of c.args.oid) c.requires)
    ∙ sym (row_at_place (λ (r : NamespaceRow). r.oid) rows c.args.oid)
