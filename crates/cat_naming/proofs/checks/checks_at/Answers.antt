use Rattle.std.proofs.Common.{ℕ, Option, List, ◌++◌, [], ap, ap₂, sym, ◌∙◌, arith}
use Rattle.std.specs.List.{filter_map, slice_get, cons_option}
use Rattle.std.specs.Option.{option_and_then}
use Rattle.std.proofs.lemmas.List.{take_all}
use Rattle.cat_model.specs.Values.{Bytes}
use Rattle.cat_naming.specs.Types.{check_of}
use Rattle.cat_naming.proofs.Looking.{given_next}
use Rattle.cat_naming.proofs.checks.checks_at.Goals as goal

pub loop-place-preserved : goal.loop-place-preserved
loop-place-preserved c =
    let f : ℕ → Option (Bytes × Bytes) = λ p. option_and_then check_of (slice_get c.args.rows.now p) in
    c.in_ok-push_check.ensures
    ∙ ap₂ (λ (a : List (Bytes × Bytes)) (o : Option (Bytes × Bytes)). a ++ cons_option o []) c.loop-place.invariant c.in_ok-check.ensures
    ∙ sym (given_next f c.args.places.now c.loop-place.place-index 0 c.loop-place-test.true)

pub returns : goal.returns
returns c =
    let f : ℕ → Option (Bytes × Bytes) = λ p. option_and_then check_of (slice_get c.args.rows.now p) in
    c.loop-place.invariant ∙ ap (filter_map f) (take_all c.loop-place.place-index c.args.places.now (omega (arith, c.loop-place-test.false)))
