use Rattle.std.proofs.Common.{◌≡◌, IfOk, ℕ, List, ap, ap₂, subst, ◌∙◌}
use Rattle.std.specs.List.{filter_map, slice_get}
use Rattle.std.specs.Option.{option_and_then}
use Rattle.cat_rows.specs.declared.constraints.ConstraintRow.{ConstraintRow}
use Rattle.cat_model.specs.Values.{Bytes}
use Rattle.cat_naming.specs.Types.{check_of}
use Rattle.cat_naming.proofs.Looking.{checks_of_group}
use Rattle.cat_naming.proofs.checks.listed_checks.Goals as goal

pub returns : goal.returns
returns c =
    let given : List ConstraintRow → List ℕ → List (Bytes × Bytes) = λ rows places. filter_map (λ p. option_and_then check_of (slice_get rows p)) places in
    subst (λ (cs : List (Bytes × Bytes)). IfOk c.checks_at.result (λ checks. checks.items ≡ cs))
    (ap₂ given (c.as_slice-rows.ensures ∙ ap (λ k. k.pg_constraint) c.tables.ensures) c.check_places.ensures ∙ checks_of_group c.args.lookups.now c.args.domain)
    c.checks_at.ensures
