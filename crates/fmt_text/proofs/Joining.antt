-- Texts that are appended one after another.
use Rattle.std.proofs.Common.{◌≡◌, ℕ, List, ◌++◌, ap, ◌∙◌, append_assoc}

-- three of them
pub three_joined : (old a b c x y z : List ℕ) → x ≡ old ++ a → y ≡ x ++ b → z ≡ y ++ c → z ≡ old ++ ((a ++ b) ++ c)
three_joined old a b c x y z e f g =
    g ∙ ap (λ (m : List ℕ). m ++ c) (f ∙ ap (λ (m : List ℕ). m ++ b) e ∙ append_assoc old a b) ∙ append_assoc old (a ++ b) c
