-- A name that is known stays at its place, and a new one stands behind the others.
use Rattle.std.proofs.Common.{◌≡◌, ℕ, cond, List, Some, ap, sym, ◌∙◌, true, false}
use Rattle.std.specs.Borrow.{Bor}
use Rattle.std.specs.Option.{is_some}
use Rattle.std.specs.List.{position_from}
use Rattle.cat_model.specs.Lexemes.{same_text}
use Rattle.field_values.proofs.Lookups.{repeated_name, new_name}
use Rattle.field_values.proofs.name_places.add_place.Goals as goal

pub returns-then-contains_key : goal.returns-then-contains_key
returns-then-contains_key c = λ names are place q.
    let known : is_some (position_from (same_text c.args.name.now) 0 names) ≡ true = ap is_some (sym (are c.args.name.now)) ∙ sym c.contains_key.ensures ∙ c.if-contains_key.true in
    are q ∙ repeated_name names c.args.name.now q known

pub returns : goal.returns
returns c = λ names are place q.
    let new : is_some (position_from (same_text c.args.name.now) 0 names) ≡ false = ap is_some (sym (are c.args.name.now)) ∙ sym c.contains_key.ensures ∙ c.if-contains_key.false in
    let at : Bor (List ℕ) = record { ref_ptr = (0, 0); now = q } in
    c.in_ok-insert.ensures.updates.0 at
    ∙ (λ i. cond (same_text c.args.name.now q) (Some (place i)) (are q i))
    ∙ new_name names c.args.name.now q new
