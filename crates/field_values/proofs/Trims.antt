-- Trailing spaces: one more space changes nothing, and without one a text stays.
use Rattle.std.proofs.Common.{◌≡◌, ℕ, ◌==◌, Bool, false, cond, List, [], ◌∷◌, ◌++◌, reverse, ap, sym, ◌∙◌}
use Rattle.std.proofs.lemmas.List.{reverse-append, reverse-reverse}
use Rattle.cat_model.specs.FieldTypes.{trimmed, without_front_blanks}

pub trimmed_space : (text : List ℕ) → trimmed (text ++ 32 ∷ []) ≡ trimmed text
trimmed_space text = ap (λ (r : List ℕ). reverse (without_front_blanks r)) (reverse-append text (32 ∷ []))

pub trimmed_end : (text : List ℕ) (b : ℕ) → (b == 32) ≡ false → trimmed (text ++ b ∷ []) ≡ text ++ b ∷ []
trimmed_end text b other =
    ap (λ (r : List ℕ). reverse (without_front_blanks r)) (reverse-append text (b ∷ []))
    ∙ ap (λ (c : Bool). reverse (cond c (without_front_blanks (reverse text)) (b ∷ reverse text))) other
    ∙ ap reverse (sym (reverse-append text (b ∷ [])))
    ∙ reverse-reverse (text ++ b ∷ [])
