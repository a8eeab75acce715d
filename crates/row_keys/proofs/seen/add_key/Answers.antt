-- The key is new, so it stands at its own number.
use Rattle.std.proofs.Common.{◌≡◌, ℕ, cond, nat_eq, Option, Some, None, refl, sym, ◌∙◌}
use Rattle.std.specs.Option.{IfNone}
use Rattle.std.specs.Cmp.Lexicographic.{pointwise}
use Rattle.cat_model.specs.Tables.{place_of}
use Rattle.row_keys.proofs.KnownKeys.{one_more}
use Rattle.row_keys.proofs.seen.add_key.Goals as goal

where_none : {P : Type 0} (o : Option ℕ) → (o ≡ None → P) → IfNone o P
where_none None holds = holds refl
where_none (Some n) holds = tt

pub returns-clause-known : goal.returns-clause-known
returns-clause-known c = λ before known number.
    where_none c.in_ok-insert.field-0 (λ none q.
    let new : place_of 1 (Some c.args.key) before ≡ None = sym (known c.args.key) ∙ sym c.in_ok-insert.ensures.old ∙ none in
    c.in_ok-insert.ensures.updates.0 q
    ∙ (λ i. cond (pointwise (pointwise nat_eq) c.args.key q) (Some (number i)) (known q i))
    ∙ sym (one_more before c.args.key q new))
