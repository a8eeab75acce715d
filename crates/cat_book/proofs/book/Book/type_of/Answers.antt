use Rattle.std.proofs.Common.{ap, sym, ◌∙◌}
use Rattle.std.specs.List.{slice_get}
use Rattle.std.specs.Option.{option_and_then}
use Rattle.cat_rows.specs.declared.types.TypeRow.{TypeRow}
use Rattle.cat_names.specs.Lookups.{place_of}
use Rattle.cat_book.specs.Chains.{type_of}
use Rattle.cat_book.proofs.Placed.{row_at_place}
use Rattle.cat_book.proofs.book.Book.type_of.Goals as goal

pub returns : goal.returns
returns c =
    let rows = c.self.inside.cat.now.pg_type in
    c.row_at.ensures
    ∙ ap (λ rs. option_and_then (slice_get rs) c.find.result) c.as_slice.ensures
    ∙ ap (option_and_then (slice_get rows)) (c.find.ensures ∙ ap (place_of c.args.oid) c.self.invariant.oids.types)
    ∙ sym (row_at_place (λ (r : TypeRow). r.oid) rows c.args.oid)
    ∙ ap (λ k. type_of k.pg_type c.args.oid) c.self.view_is
