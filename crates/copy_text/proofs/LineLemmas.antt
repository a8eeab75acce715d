-- The lines of a text, one after another.
use Rattle.std.proofs.Common.{◌≡◌, ℕ, suc, ◌+◌, ◌-◌, ◌<◌, ◌≤◌, min, true, false, not, eqb, List, [], ◌∷◌, length, take, drop, refl, sym, ap, ◌∙◌, arith, inl, inr, ◌⊎◌, cond}
use Rattle.std.specs.List.{position_or_len, onto_first, slice_range}
use Rattle.std.specs.Str.{bytes_eq}
use Rattle.std.proofs.lemmas.Bool.{cases_Bool, ne_eqb, eq-eqb, cond-true, cond-false, both_ways, cases_lt}
use Rattle.std.proofs.lemmas.List.{drop-drop, drop_all, drop_min, nil_from_length, length-drop}
use Rattle.std.proofs.lemmas.List.Sums.{prefix_len-le-length}
use Rattle.std.proofs.lemmas.Slice.Eq.{bytes_eq-Decides}
use Rattle.copy_text.specs.declared.line.Line.TheVariants.{Row, Stop, End}
use Rattle.copy_text.specs.Marks.{newline, end_mark}
use Rattle.copy_text.specs.Lines.{lines, line_at, IsNextLine}

abbrev pub len_of : List ℕ → ℕ
len_of rest = position_or_len (λ b. eqb b newline) rest

pub len_within : (rest : List ℕ) → len_of rest ≤ length rest
len_within rest = prefix_len-le-length (λ b. not (eqb b newline)) rest

pub lines_nil : lines [] ≡ []
unfolding lines
lines_nil = refl

lines_newline : (b : ℕ) (rest : List ℕ) → eqb b newline ≡ true → lines (b ∷ rest) ≡ [] ∷ lines rest
unfolding lines
lines_newline b rest is = cond-true _ _ _ is

lines_other : (b : ℕ) (rest : List ℕ) → eqb b newline ≡ false → lines (b ∷ rest) ≡ onto_first b (lines rest)
unfolding lines
lines_other b rest other = cond-false _ _ _ other

len_newline : (b : ℕ) (rest : List ℕ) → eqb b newline ≡ true → len_of (b ∷ rest) ≡ 0
len_newline b rest is = rw is refl

len_other : (b : ℕ) (rest : List ℕ) → eqb b newline ≡ false → len_of (b ∷ rest) ≡ suc (len_of rest)
len_other b rest other = rw other (omega arith)

-- the first line is what stands before the first newline
pub lines_first : (rest : List ℕ) → 0 < length rest → lines rest ≡ take (len_of rest) rest ∷ lines (drop (len_of rest + 1) rest)
lines_first [] some = absurd (omega arith)
lines_first (b ∷ rest) some = by (cases_Bool (eqb b newline)) (λ more. lines_first rest more)
  where
    goes_on : eqb b newline ≡ false → (n : ℕ) → len_of (b ∷ rest) ≡ suc n → lines rest ≡ take n rest ∷ lines (drop (n + 1) rest)
        → lines (b ∷ rest) ≡ take (len_of (b ∷ rest)) (b ∷ rest) ∷ lines (drop (len_of (b ∷ rest) + 1) (b ∷ rest))
    goes_on other n is so_far =
        let next : suc n + 1 ≡ suc (n + 1) = omega arith in
        lines_other b rest other ∙ ap (onto_first b) so_far ∙ rw (is, next) refl

    only : eqb b newline ≡ false → rest ≡ [] → lines (b ∷ rest) ≡ take (len_of (b ∷ rest)) (b ∷ rest) ∷ lines (drop (len_of (b ∷ rest) + 1) (b ∷ rest))
    only other nothing =
        let one : len_of (b ∷ rest) ≡ 1 = len_other b rest other ∙ ap (λ (xs : List ℕ). suc (len_of xs)) nothing in
        lines_other b rest other ∙ rw (one, nothing, lines_nil) refl

    by : (eqb b newline ≡ true) ⊎ (eqb b newline ≡ false) → (0 < length rest → lines rest ≡ take (len_of rest) rest ∷ lines (drop (len_of rest + 1) rest))
        → lines (b ∷ rest) ≡ take (len_of (b ∷ rest)) (b ∷ rest) ∷ lines (drop (len_of (b ∷ rest) + 1) (b ∷ rest))
    by (inl is) later = lines_newline b rest is ∙ rw (len_newline b rest is) refl
    by (inr other) later = elim (cases_lt 0 (length rest)) [
      | inl more ↦ goes_on other (len_of rest) (len_other b rest other) (later more)
      | inr none ↦ only other (nil_from_length rest (omega arith))
    ]

module _ (text : List ℕ) (at : ℕ) where
  pub line_ends : at ≡ length text → IsNextLine text at End × (End ≡ line_at text at)
  unfolding line_at
  line_ends is =
      let nothing : drop at text ≡ [] = drop_all at text (omega arith) in
      ((is, ap lines nothing ∙ lines_nil), sym (cond-true _ _ _ (eq-eqb _ _ is)))

  module _ (le : at ≤ length text) (before_end : at ≡ length text → ⊥) (rest line : List ℕ) (len : ℕ) (is_rest : rest ≡ drop at text) (is_len : len ≡ len_of rest) (is_line : line ≡ take len rest) where
    some : 0 < length rest
    some = omega (arith, ap length is_rest, length-drop at text)

    first : lines (drop at text) ≡ line ∷ lines (drop (len + 1) rest)
    first = ap lines (sym is_rest) ∙ lines_first rest some ∙ rw (is_line, is_len) refl

    chosen : line_at text at ≡ cond (bytes_eq line end_mark) Stop (Row at (at + len) (min (at + len + 1) (length text)))
    unfolding line_at
    chosen = cond-false _ _ _ (ne_eqb _ _ before_end) ∙ rw (← is_rest, ← is_len, ← is_line) refl

    pub line_stops : bytes_eq line end_mark ≡ true → IsNextLine text at Stop × (Stop ≡ line_at text at)
    line_stops is =
        let same : line ≡ end_mark = (bytes_eq-Decides line end_mark).0 is in
        ((lines (drop (len + 1) rest), first ∙ ap (λ (xs : List ℕ). xs ∷ lines (drop (len + 1) rest)) same), sym (chosen ∙ cond-true _ _ _ is))

    pub line_row : (next : ℕ) → (bytes_eq line end_mark ≡ false) → next ≡ min (at + len + 1) (length text) → IsNextLine text at (Row at (at + len) next) × (Row at (at + len) next ≡ line_at text at)
    line_row next other is_next =
        let within : len ≤ length rest = omega (arith, len_within rest) in
        let cut : length rest ≡ length text - at = ap length is_rest ∙ length-drop at text in
        let range : slice_range text at (at + len) ≡ line = rw (is_line, is_rest) (ap (λ (n : ℕ). take n (drop at text)) (omega arith)) in
        let behind : drop (len + 1) rest ≡ drop next text = ap (drop (len + 1)) is_rest ∙ drop-drop (len + 1) at text ∙ same_end (at + (len + 1)) next (omega arith) in
        let differs : line ≡ end_mark → ⊥ = λ same. both_ways _ other ((bytes_eq-Decides line end_mark).1 same) in (
          (refl, omega arith, omega arith, omega arith, omega arith, λ same. differs (sym range ∙ same), first ∙ rw (range, behind) refl),
          rw is_next (sym (chosen ∙ cond-false _ _ _ other)),
        )
      where
        same_end : (m n : ℕ) → n ≡ min m (length text) → drop m text ≡ drop n text
        same_end m n is = sym (ap (λ (k : ℕ). drop k text) is ∙ drop_min m text)
