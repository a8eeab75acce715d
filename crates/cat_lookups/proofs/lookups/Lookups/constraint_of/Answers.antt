use Rattle.std.proofs.Common.{ap, sym, ◌∙◌}
use Rattle.std.specs.List.{slice_get}
use Rattle.std.specs.Option.{option_and_then}
use Rattle.cat_names.specs.Lookups.{place_of}
use Rattle.cat_rows.specs.declared.constraints.ConstraintRow.{ConstraintRow}
use Rattle.cat_lookups.specs.Found.{constraint_of}
use Rattle.cat_lookups.proofs.Finding.{row_at_place}
use Rattle.cat_lookups.proofs.lookups.Lookups.constraint_of.Goals as goal

pub returns-in-Some : goal.returns-in-Some
returns-in-Some c =
    let rows = c.self.inside.cat.now.pg_constraint in
    let oid = c.args.oid in
    c.constraint_at.ensures
    ∙ ap (λ rs. slice_get rs c.in-Some.place) c.as_slice.ensures
    ∙ ap (option_and_then (slice_get rows)) (sym c.in-Some.is ∙ c.find.ensures ∙ ap (place_of oid) c.self.invariant.of_constraints)
    ∙ sym (row_at_place (λ (k : ConstraintRow). k.oid) rows oid)
    ∙ ap (λ k. constraint_of k oid) c.self.view_is

pub returns-in-None : goal.returns-in-None
returns-in-None c =
    let rows = c.self.inside.cat.now.pg_constraint in
    let oid = c.args.oid in
    ap (option_and_then (slice_get rows)) (sym c.in-None.is ∙ c.find.ensures ∙ ap (place_of oid) c.self.invariant.of_constraints)
    ∙ sym (row_at_place (λ (k : ConstraintRow). k.oid) rows oid)
    ∙ ap (λ k. constraint_of k oid) c.self.view_is
