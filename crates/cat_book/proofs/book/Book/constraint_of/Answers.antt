use Rattle.std.proofs.Common.{ap, sym, ◌∙◌}
use Rattle.std.specs.List.{slice_get}
use Rattle.std.specs.Option.{option_and_then}
use Rattle.cat_rows.specs.declared.constraints.ConstraintRow.{ConstraintRow}
use Rattle.cat_names.specs.Lookups.{place_of}
use Rattle.cat_book.specs.Leads.{constraint_of}
use Rattle.cat_book.proofs.Placed.{row_at_place}
use Rattle.cat_book.proofs.book.Book.constraint_of.Goals as goal

pub returns : goal.returns
returns c =
    let rows = c.self.inside.cat.now.pg_constraint in
    c.row_at.ensures
    ∙ ap (λ rs. option_and_then (slice_get rs) c.find.result) c.as_slice.ensures
    ∙ ap (option_and_then (slice_get rows)) (c.find.ensures ∙ ap (place_of c.args.oid) c.self.invariant.oids.constraints)
    ∙ sym (row_at_place (λ (r : ConstraintRow). r.oid) rows c.args.oid)
    ∙ ap (λ k. constraint_of k c.args.oid) c.self.view_is
