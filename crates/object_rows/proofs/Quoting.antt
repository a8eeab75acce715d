-- A name as it is written is UTF-8.
use Rattle.std.proofs.Common.{◌≡◌, ℕ, suc, ◌<◌, ◌≤◌, Bool, true, false, cond, eqb, List, [], ◌∷◌, ◌++◌, length, get_or, append-nil, IsUtf8, inl, inr, refl, sym, ap, ap₂, subst, arith}
use Rattle.std.specs.Prelude.{not, ◌&&◌}
use Rattle.std.specs.List.{flat_map}
use Rattle.std.proofs.lemmas.Bool.{and_parts, cases_lt, eqb-true}
use Rattle.std.proofs.lemmas.Grind.{flat_map-append}
use Rattle.std.proofs.lemmas.Str.{IsUtf8-append, IsUtf8-nil, IsUtf8-encode, encode_ascii, inside_one}
use lib.Utf8.{scalar, scalars, encode, encodes, low_scalar}
use Rattle.sql_lex.specs.Reserved.{is_reserved}
use Rattle.sql_lex.specs.Written.{is_bare, doubled, quoted, written_name}

ascii_then : (x : ℕ) (xs : List ℕ) → x < 128 → IsUtf8 xs → IsUtf8 (x ∷ xs)
ascii_then x xs small u = IsUtf8-append (x ∷ []) xs (subst IsUtf8 (encode_ascii x small) (IsUtf8-encode x (low_scalar x (omega arith)))) u

one_ascii : (x : ℕ) → x < 128 → IsUtf8 (x ∷ [])
one_ascii x small = ascii_then x [] small IsUtf8-nil

-- a byte, a quote twice
twice : ℕ → List ℕ
twice b = cond (eqb b 34) (34 ∷ 34 ∷ []) (b ∷ [])

twice_low : (b : ℕ) → b < 128 → IsUtf8 (twice b)
unfolding twice
twice_low b small = by (eqb b 34)
  where
    by : (is : Bool) → IsUtf8 (cond is (34 ∷ 34 ∷ []) (b ∷ []))
    by true = ascii_then 34 (34 ∷ []) (omega arith) (one_ascii 34 (omega arith))
    by false = one_ascii b small

twice_high : (b : ℕ) → 128 ≤ b → twice b ≡ b ∷ []
unfolding twice
twice_high b big = by (eqb b 34) refl
  where
    by : (is : Bool) → eqb b 34 ≡ is → cond is (34 ∷ 34 ∷ []) (b ∷ []) ≡ b ∷ []
    by true is = absurd (omega (arith, eqb-true b 34 is))
    by false is = refl

doubled_twice : (text : List ℕ) → doubled 34 text ≡ flat_map twice text
unfolding doubled twice
doubled_twice [] = refl
doubled_twice (b ∷ text) = by (eqb b 34) (doubled_twice text)
  where
    by : (is : Bool) → doubled 34 text ≡ flat_map twice text → cond is (34 ∷ 34 ∷ doubled 34 text) (b ∷ doubled 34 text) ≡ cond is (34 ∷ 34 ∷ []) (b ∷ []) ++ flat_map twice text
    by true more = ap (λ (l : List ℕ). 34 ∷ 34 ∷ l) more
    by false more = ap (λ (l : List ℕ). b ∷ l) more

unchanged : (xs : List ℕ) → ((k : ℕ) → k < length xs → 128 ≤ get_or xs k 0) → flat_map twice xs ≡ xs
unchanged [] high = refl
unchanged (x ∷ xs) high =
    ap₂ (λ (a b : List ℕ). a ++ b) (twice_high x (high 0 (omega arith))) (unchanged xs (λ k below. high (suc k) (omega arith)))

one_char : (c : ℕ) → scalar c ≡ true → IsUtf8 (flat_map twice (encode c))
one_char c ok = elim (cases_lt c 128) [
  | inl small ↦ rw (encode_ascii c small, append-nil) (twice_low c small)
  | inr big ↦
      let high : (k : ℕ) → k < length (encode c) → 128 ≤ get_or (encode c) k 0 = λ k below. elim (cases_lt (get_or (encode c) k 0) 128) [
        | inl low ↦ absurd (omega (arith, inside_one c [] (encode c) k (sym (append-nil _)) below low))
        | inr h ↦ h
      ] in
      subst IsUtf8 (sym (unchanged (encode c) high)) (IsUtf8-encode c ok)
]

all_chars : (cs : List ℕ) → scalars cs ≡ true → IsUtf8 (flat_map twice (encodes cs))
all_chars [] ok = IsUtf8-nil
all_chars (c ∷ cs) ok =
    let parts = and_parts _ _ ok in
    subst IsUtf8 (sym (flat_map-append twice (encode c) (encodes cs))) (IsUtf8-append _ _ (one_char c parts.0) (all_chars cs parts.1))

doubled_utf8 : (text : List ℕ) → IsUtf8 text → IsUtf8 (doubled 34 text)
doubled_utf8 text u =
    subst IsUtf8 (sym (doubled_twice text)) (subst (λ l. IsUtf8 (flat_map twice l)) u.1.1 (all_chars u.0 u.1.0))

quoted_utf8 : (text : List ℕ) → IsUtf8 text → IsUtf8 (quoted 34 text)
unfolding quoted
quoted_utf8 text u =
    ascii_then 34 _ (omega arith) (IsUtf8-append (doubled 34 text) (34 ∷ []) (doubled_utf8 text u) (one_ascii 34 (omega arith)))

pub written_utf8 : (name : List ℕ) → IsUtf8 name → IsUtf8 (written_name name)
unfolding written_name
written_utf8 name u = by (is_bare name && not (is_reserved name))
  where
    by : (bare : Bool) → IsUtf8 (cond bare name (quoted 34 name))
    by true = u
    by false = quoted_utf8 name u
