-- The tests for names and texts.
use Rattle.std.proofs.Common.{◌≡◌, ◌≢◌, ℕ, zero, suc, Bool, true, false, eqb, List, [], ◌∷◌, refl, sym, arith}
use Rattle.std.specs.List.{All, list_any}
use Rattle.std.proofs.lemmas.Bool.{and_parts, and_from, ltb-true, leb-true, lt-ltb, le-leb, not-true, not_from_false, or_parts, or_from, eqb-false, ne_eqb, false_from_ne_true, both_ways}
use Rattle.std.proofs.lemmas.Str.{IsUtf8-from_is_utf8, is_utf8-from_IsUtf8}
use Rattle.copy_text.specs.Texts.{IsName, IsText, is_name, is_text}

cons_no_zero : (b : ℕ) (rest : List ℕ) → b ≢ 0 → All (λ c. c ≢ 0) rest → All (λ c. c ≢ 0) (b ∷ rest)
cons_no_zero b rest other each zero d lt = other
cons_no_zero b rest other each (suc k) d lt = each k d (omega arith)

no_zero : (bytes : List ℕ) → list_any (λ b. eqb b 0) bytes ≡ false → All (λ b. b ≢ 0) bytes
no_zero [] none = λ k d lt. absurd (omega arith)
no_zero (b ∷ rest) none = cons_no_zero b rest (eqb-false b 0 (or_parts _ _ none).0) (no_zero rest (or_parts _ _ none).1)

none_zero : (bytes : List ℕ) → All (λ b. b ≢ 0) bytes → list_any (λ b. eqb b 0) bytes ≡ false
none_zero [] each = refl
none_zero (b ∷ rest) each = or_from _ _ (ne_eqb b 0 (each 0 0 (omega arith))) (none_zero rest (λ k d lt. each (suc k) d (omega arith)))

pub name_from_test : (bytes : List ℕ) → is_name bytes ≡ true → IsName bytes
name_from_test bytes passes =
    let a = and_parts _ _ passes in
    let b = and_parts _ _ a.0 in
    let c = and_parts _ _ b.0 in
    record { some = ltb-true _ _ c.0; short = leb-true _ _ c.1; utf8 = IsUtf8-from_is_utf8 bytes b.1; no_zero = no_zero bytes (not-true _ a.1) }

pub test_from_name : (bytes : List ℕ) → IsName bytes → is_name bytes ≡ true
test_from_name bytes is =
    and_from _ _ (and_from _ _ (and_from _ _ (lt-ltb _ _ is.some) (le-leb _ _ is.short)) (is_utf8-from_IsUtf8 bytes is.utf8)) (not_from_false _ (none_zero bytes is.no_zero))

-- a test of the code that says the same
pub same_test : (b : Bool) (bytes : List ℕ) → (b ≡ true → IsName bytes) × (IsName bytes → b ≡ true) → b ≡ is_name bytes
same_test true bytes h = sym (test_from_name bytes (h.0 refl))
same_test false bytes h = sym (false_from_ne_true _ (λ passes. both_ways _ refl (h.1 (name_from_test bytes passes))))

pub same_text_test : (b : Bool) (bytes : List ℕ) → (b ≡ true → IsText bytes) × (IsText bytes → b ≡ true) → b ≡ is_text bytes
same_text_test true bytes h = sym (is_utf8-from_IsUtf8 bytes (h.0 refl))
same_text_test false bytes h = sym (false_from_ne_true _ (λ passes. both_ways _ refl (h.1 (IsUtf8-from_is_utf8 bytes passes))))
