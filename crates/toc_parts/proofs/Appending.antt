-- What stands behind several appends, one after another.
use Rattle.std.proofs.Common.{◌≡◌, ℕ, List, ◌++◌, Result, Ok, Err, ap, ◌∙◌, append_assoc}
use Rattle.std.specs.Result.{OnOk}
use Rattle.copy_text.specs.Rows.{Extends}

pub after : (o p q a b : List ℕ) → p ≡ o ++ a → q ≡ p ++ b → q ≡ o ++ (a ++ b)
after o p q a b e f = f ∙ ap (λ (x : List ℕ). x ++ b) e ∙ append_assoc o a b

-- the last append is returned as it is
pub last : {T E : Type 0} (r : Result T E) (o p q a b : List ℕ) → p ≡ o ++ a → OnOk r (q ≡ p ++ b) → OnOk r (q ≡ o ++ (a ++ b))
last (Ok x) o p q a b e f = after o p q a b e f
last (Err d) o p q a b e f = tt

pub further : (o p q : List ℕ) → Extends o p → Extends p q → Extends o q
further o p q e f = (e.0 ++ f.0, f.1 ∙ ap (λ (x : List ℕ). x ++ f.0) e.1 ∙ append_assoc o e.0 f.0)
