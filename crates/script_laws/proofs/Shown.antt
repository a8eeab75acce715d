-- A text as a comment shows it: it has no end of a line, and it is UTF-8 where the text is.
use Rattle.std.proofs.Common.{◌≡◌, ℕ, ◌+◌, ◌/◌, ◌%◌, ◌<◌, ◌≤◌, true, false, ltb, List, [], ◌∷◌, ◌++◌, refl, sym, ap, subst, ◌∙◌, inl, inr, arith}
use Rattle.std.specs.Prelude.{◌==◌, if◌then◌else◌}
use Rattle.std.specs.List.{list_all}
use Rattle.std.specs.Str.{IsUtf8}
use Rattle.std.proofs.Math.Utf8.{scalar, scalars, encode, encodes, low_scalar}
use Rattle.std.proofs.lemmas.Bool.{cases_Bool, ne_eqb, and_parts, and_from, or_cases}
use Rattle.std.proofs.lemmas.Bool.Decides.{Decides-eqb}
use Rattle.std.proofs.lemmas.Str.{encode_ascii}
use Rattle.sql_lex.specs.Bytes.{in_line}
use Rattle.fmt_text.specs.Lines.{ends_line, shown}

-- the same, closed
unfoldable spaced : List ℕ → List ℕ
spaced text = shown text

spaced_other : (b : ℕ) (rest : List ℕ) → ends_line b ≡ false → spaced (b ∷ rest) ≡ b ∷ spaced rest
unfolding spaced
spaced_other b rest e = rw e refl

spaced_end : (b : ℕ) (rest : List ℕ) → ends_line b ≡ true → spaced (b ∷ rest) ≡ 32 ∷ spaced rest
unfolding spaced
spaced_end b rest e = rw e refl

-- ---- no end of a line

stays_in_line : (b : ℕ) → ends_line b ≡ false → in_line b ≡ true
unfolding in_line
stays_in_line b e =
    elim (cases_Bool (b == 10)) [
      | inl is ↦ let both : ends_line b ≡ true = rw is refl in absurd cc
      | inr isnt ↦ rw isnt refl
    ]

space_in_line : in_line 32 ≡ true
unfolding in_line
space_in_line = refl

spaced_in_line : (text : List ℕ) → list_all in_line (spaced text) ≡ true
unfolding spaced
spaced_in_line [] = refl
spaced_in_line (b ∷ text) = and_from (in_line (if ends_line b then 32 else b)) (list_all in_line (spaced text)) one (spaced_in_line text)
  where
    one : in_line (if ends_line b then 32 else b) ≡ true
    one = elim (cases_Bool (ends_line b)) [ inl is ↦ rw is space_in_line | inr isnt ↦ rw isnt (stays_in_line b isnt) ]

pub shown_in_line : (text : List ℕ) → list_all in_line (shown text) ≡ true
unfolding spaced
shown_in_line text = spaced_in_line text

-- ---- UTF-8

high_stays : (b : ℕ) → 128 ≤ b → ends_line b ≡ false
high_stays b le = rw (ne_eqb b 10 (λ (e : b ≡ 10). omega arith), ne_eqb b 13 (λ (e : b ≡ 13). omega arith)) refl

high : (b : ℕ) (rest : List ℕ) → 128 ≤ b → spaced (b ∷ rest) ≡ b ∷ spaced rest
high b rest le = spaced_other b rest (high_stays b le)

-- a character that ends no line
spaced_char : (c : ℕ) (rest : List ℕ) → ends_line c ≡ false → spaced (encode c ++ rest) ≡ encode c ++ spaced rest
unfolding encode
spaced_char c rest e =
    elim (cases_Bool (ltb c 128)) [
      | inl one ↦ rw one (spaced_other c rest e)
      | inr n1 ↦
          elim (cases_Bool (ltb c 2048)) [
            | inl two ↦ rw (n1, two) (high _ _ (omega arith) ∙ ap (λ (r : List ℕ). (192 + c / 64) ∷ r) (high _ _ (omega arith)))
            | inr n2 ↦
                elim (cases_Bool (ltb c 65536)) [
                  | inl three ↦ rw (n1, n2, three) (high _ _ (omega arith) ∙ ap (λ (r : List ℕ). (224 + c / 4096) ∷ r) (high _ _ (omega arith) ∙ ap (λ (r : List ℕ). (128 + c / 64 % 64) ∷ r) (high _ _ (omega arith))))
                  | inr n3 ↦ rw (n1, n2, n3) (high _ _ (omega arith) ∙ ap (λ (r : List ℕ). (240 + c / 262144) ∷ r) (high _ _ (omega arith) ∙ ap (λ (r : List ℕ). (128 + c / 4096 % 64) ∷ r) (high _ _ (omega arith) ∙ ap (λ (r : List ℕ). (128 + c / 64 % 64) ∷ r) (high _ _ (omega arith)))))
                ]
          ]
    ]

low_end : (c : ℕ) → ends_line c ≡ true → c < 128
low_end c e =
    elim (or_cases (c == 10) (c == 13) e) [
      | inl is ↦ let same : c ≡ 10 = (Decides-eqb c 10).0 is in omega arith
      | inr is ↦ let same : c ≡ 13 = (Decides-eqb c 13).0 is in omega arith
    ]

spaced_nil : spaced [] ≡ []
unfolding spaced
spaced_nil = refl

-- showing the bytes is showing the characters
abbrev SameShown : List ℕ → List ℕ → Type 0
SameShown cs shown_cs = (scalars shown_cs ≡ true) × (encodes shown_cs ≡ spaced (encodes cs))

spaced_chars : (cs : List ℕ) → scalars cs ≡ true → SameShown cs (spaced cs)
spaced_chars [] s = subst (SameShown []) (sym spaced_nil) (refl, sym spaced_nil)
spaced_chars (c ∷ cs) s =
    let parts = and_parts (scalar c) (scalars cs) s in
    let more = spaced_chars cs parts.1 in
    elim (cases_Bool (ends_line c)) [
      | inl is ↦
          let space : encode 32 ≡ 32 ∷ [] = encode_ascii 32 (omega arith) in
          let one : encode c ≡ c ∷ [] = encode_ascii c (low_end c is) in
          subst (SameShown (c ∷ cs)) (sym (spaced_end c cs is)) (
            and_from (scalar 32) (scalars (spaced cs)) (low_scalar 32 (omega arith)) more.0,
            ap (λ (r : List ℕ). r ++ encodes (spaced cs)) space ∙ ap (λ (r : List ℕ). 32 ∷ r) more.1 ∙ sym (spaced_end c (encodes cs) is) ∙ ap (λ (r : List ℕ). spaced (r ++ encodes cs)) (sym one),
          )
      | inr isnt ↦
          subst (SameShown (c ∷ cs)) (sym (spaced_other c cs isnt)) (
            and_from (scalar c) (scalars (spaced cs)) parts.0 more.0,
            ap (λ (r : List ℕ). encode c ++ r) more.1 ∙ sym (spaced_char c (encodes cs) isnt),
          )
    ]

pub shown_utf8 : (text : List ℕ) → IsUtf8 text → IsUtf8 (shown text)
unfolding spaced
shown_utf8 text (cs, (s, is)) = let h = spaced_chars cs s in (spaced cs, (h.0, h.1 ∙ ap spaced is))
