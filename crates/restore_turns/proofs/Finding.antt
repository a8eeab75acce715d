-- The first number of a range that passes a test.
use Rattle.std.proofs.Common.{◌≡◌, ℕ, zero, suc, ◌+◌, ◌<◌, Bool, true, false, cond, List, [], ◌∷◌, Some, None, refl, ap, subst, ◌∙◌, arith}
use Rattle.std.specs.List.{find, range_with_len}
use Rattle.restore_core.proofs.Pairs.{head_is, no_head}

pub found-passes : (test : ℕ → Bool) (ns : List ℕ) (n : ℕ) → find test ns ≡ Some n → test n ≡ true
found-passes test [] n e = no_head n e
found-passes test (m ∷ ms) n e = at (test m) refl e (found-passes test ms n)
  where
    at : (b : Bool) → test m ≡ b → cond b (Some m) (find test ms) ≡ Some n → (find test ms ≡ Some n → test n ≡ true) → test n ≡ true
    at true is g later = subst (λ (k : ℕ). test k ≡ true) (head_is m n g) is
    at false is g later = later g

pub none-passes : (test : ℕ → Bool) (from many i : ℕ) → find test (range_with_len from many) ≡ None → i < many → test (from + i) ≡ false
none-passes test from zero i e less = absurd (omega arith)
none-passes test from (suc many) i e less = at (test from) refl e (none-passes test (from + 1) many) i less
  where
    at : (b : Bool) → test from ≡ b → cond b (Some from) (find test (range_with_len (from + 1) many)) ≡ None → ((j : ℕ) → find test (range_with_len (from + 1) many) ≡ None → j < many → test (from + 1 + j) ≡ false) → (j : ℕ) → j < suc many → test (from + j) ≡ false
    at true is g later j small = cc
    at false is g later zero small = subst (λ (k : ℕ). test k ≡ false) (omega arith) is
    at false is g later (suc j) small = subst (λ (k : ℕ). test k ≡ false) (omega arith) (later j g (omega arith))

pub none-found : (test : ℕ → Bool) (ns : List ℕ) → ((n : ℕ) → test n ≡ false) → find test ns ≡ None
none-found test [] none = refl
none-found test (m ∷ ms) none = ap (λ (b : Bool). cond b (Some m) (find test ms)) (none m) ∙ none-found test ms none
