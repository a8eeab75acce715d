-- What the search for a tab, a backslash or a carriage return says of the first piece of a line.
use Rattle.std.proofs.Common.{◌≡◌, ℕ, ◌+◌, ◌<◌, ◌≤◌, false, ◌||◌, eqb, List, [], ◌∷◌, ◌++◌, length, map, take, drop, get_or, Some, None, Ok, refl, sym, ap, subst, ◌∙◌, zero-add, arith}
use Rattle.std.specs.Str.{bytes_eq}
use Rattle.std.proofs.lemmas.Bool.{true≢false, or_parts, or_from, false_from_ne_true, eqb-true, eqb-false, eq-eqb}
use Rattle.std.proofs.lemmas.List.{length-take, get_or-take, drop-drop, map-append}
use Rattle.std.proofs.lemmas.Slice.Eq.{bytes_eq-Decides}
use Rattle.memchr.specs.Find.{Nowhere, Passes, is_byte, is_byte2, is_byte3}
use Rattle.copy_text.specs.Marks.{tab, backslash, carriage_return, null_mark}
use Rattle.copy_text.specs.Pieces.{pieces, pieces_after, IsFirstPiece}
use Rattle.copy_text.specs.Rows.{Field}
use Rattle.copy_text.specs.Reading.{field_of, fields_of, row_of}
use Rattle.copy_text.proofs.PieceLemmas.{first_piece_ends, first_piece_cut}
use Rattle.copy_text.proofs.RowLemmas.{with_front, fields_last, fields_more}
use Rattle.copy_text.proofs.EscapeLemmas.{decode_plain, ends_plain}
use Rattle.copy_text.proofs.FieldLemmas.{field_text, some_text, absent_at}
use Rattle.row_fields.specs.Plain.{IsPlainFirst}

abbrev Clear : List ℕ → ℕ → Type 0
Clear line n = Nowhere (Passes (is_byte3 tab backslash carriage_return) line) 0 n

-- none of the three stands at a place before n
others : (line : List ℕ) (n k : ℕ) → Clear line n → k < n → (eqb (get_or line k 0) tab ≡ false) × (eqb (get_or line k 0) backslash ≡ false) × (eqb (get_or line k 0) carriage_return ≡ false)
others line n k none lt =
    let fails = or_parts (eqb (get_or line k 0) tab || eqb (get_or line k 0) backslash) (eqb (get_or line k 0) carriage_return) (false_from_ne_true _ (none k (omega arith) lt)) in
    let more = or_parts _ _ fails.0 in
    (more.0, more.1, fails.1)

no_cut : (line : List ℕ) (n : ℕ) → Clear line n → Nowhere (Passes (is_byte2 tab backslash) line) 0 n
no_cut line n none k low lt here =
    let fails = others line n k none lt in
    true≢false (sym here ∙ or_from _ _ fails.0 fails.1)

module _ (line : List ℕ) (n : ℕ) (within : n ≤ length line) (none : Clear line n) where
  abbrev piece : List ℕ
  piece = take n line

  long : length piece ≡ n
  long = omega (arith, length-take n line)

  no_backslash : Nowhere (Passes (is_byte backslash) piece) 0 (length piece)
  no_backslash k low lt here =
      let below : k < n = omega (arith, long) in
      let same : get_or piece k 0 ≡ get_or line k 0 = get_or-take n line k 0 below in
      eqb-false _ _ (others line n k none below).1 (sym same ∙ eqb-true _ _ here)

  no_return : Nowhere (Passes (is_byte carriage_return) piece) 0 (length piece)
  no_return k low lt here =
      let below : k < n = omega (arith, long) in
      let same : get_or piece k 0 ≡ get_or line k 0 = get_or-take n line k 0 below in
      eqb-false _ _ (others line n k none below).2 (sym same ∙ eqb-true _ _ here)

  not_null : bytes_eq piece null_mark ≡ false
  not_null = false_from_ne_true _ (λ same. has ((bytes_eq-Decides piece null_mark).0 same))
    where
      has : piece ≡ null_mark → ⊥
      has is =
          let lt : 0 < length piece = subst (λ (xs : List ℕ). 0 < length xs) (sym is) (omega arith) in
          let first : get_or piece 0 0 ≡ backslash = ap (λ (xs : List ℕ). get_or xs 0 0) is in
          no_backslash 0 (omega arith) lt (eq-eqb _ _ first)

  pub plain_first : IsFirstPiece line n → IsPlainFirst line n
  plain_first first = record {
    piece = first;
    spells = λ text start.
        let whole = decode_plain piece no_backslash in
        field_text start piece (absent_at piece None no_return refl) (some_text piece piece (sym whole) text) (sym (ends_plain piece no_backslash)) not_null
        ∙ ap (λ (xs : List ℕ). Ok (Some xs)) whole;
  }

-- nothing was found: the first piece is the whole line
pub plain_line : (line : List ℕ) → Clear line (length line) → IsPlainFirst line (length line)
plain_line line none = plain_first line (length line) (omega arith) none (first_piece_ends line 0 (omega arith) refl (no_cut line (length line) none))

-- a tab was found
pub plain_cut : (line : List ℕ) (n : ℕ) → n < length line → Clear line n → get_or line n 0 ≡ tab → IsPlainFirst line n
plain_cut line n lt none here =
    let start : 0 + n ≡ n = zero-add n in
    let cut : IsFirstPiece line (0 + n) = first_piece_cut line 0 n lt (omega arith) refl (no_cut line n none) (ap (λ (m : ℕ). get_or line m 0) start ∙ here) in
    plain_first line n (omega arith) none (subst (λ (m : ℕ). IsFirstPiece line m) start cut)

-- ---- null

null_is : (line : List ℕ) → length line ≡ 2 → get_or line 0 0 ≡ backslash → get_or line 1 0 ≡ 78 → line ≡ null_mark
null_is [] len a n = absurd (omega arith)
null_is (x ∷ []) len a n = absurd (omega arith)
null_is (x ∷ y ∷ []) len a n = cc
null_is (x ∷ y ∷ z ∷ more) len a n = absurd (omega arith)

null_is_before : (line : List ℕ) → 3 ≤ length line → get_or line 0 0 ≡ backslash → get_or line 1 0 ≡ 78 → get_or line 2 0 ≡ tab → line ≡ 92 ∷ 78 ∷ tab ∷ drop 3 line
null_is_before [] len a n t = absurd (omega arith)
null_is_before (x ∷ []) len a n t = absurd (omega arith)
null_is_before (x ∷ y ∷ []) len a n t = absurd (omega arith)
null_is_before (x ∷ y ∷ z ∷ more) len a n t = cc

null_alone : pieces null_mark ≡ null_mark ∷ []
unfolding pieces_after
null_alone = refl

null_cut : (more : List ℕ) → pieces (92 ∷ 78 ∷ tab ∷ more) ≡ null_mark ∷ pieces more
unfolding pieces_after
null_cut more = refl

null_line : IsFirstPiece null_mark 2
null_line = record { within = omega arith; last = λ _. null_alone; cut = λ lt. absurd (omega arith) }

null_before : (more : List ℕ) → IsFirstPiece (92 ∷ 78 ∷ tab ∷ more) 2
null_before more = record { within = omega arith; last = λ is. absurd (omega arith); cut = λ _. null_cut more }

-- the line is null, and a tab may follow
pub null_first : (line : List ℕ) → length line ≡ 2 → get_or line 0 0 ≡ backslash → get_or line 1 0 ≡ 78 → IsFirstPiece line 2 × (take 2 line ≡ null_mark)
null_first line len a n =
    let is = null_is line len a n in
    (subst (λ (xs : List ℕ). IsFirstPiece xs 2) (sym is) null_line, ap (take 2) is)

pub null_then_tab : (line : List ℕ) → 3 ≤ length line → get_or line 0 0 ≡ backslash → get_or line 1 0 ≡ 78 → get_or line 2 0 ≡ tab → IsFirstPiece line 2 × (take 2 line ≡ null_mark)
null_then_tab line len a n t =
    let is = null_is_before line len a n t in
    (subst (λ (xs : List ℕ). IsFirstPiece xs 2) (sym is) (null_before (drop 3 line)), ap (take 2) is)

-- ---- one field more of a line

module _ {A : Type 0} (f : A → Field) (fields : List A) (field : A) (start n : ℕ) (line rest : List ℕ)
    (is : rest ≡ drop start line)
    (so_far : with_front (map f fields) (fields_of start (pieces (drop start line))) ≡ row_of line)
    (first : IsFirstPiece rest n)
    (read : field_of start (take n rest) ≡ Ok (f field)) where
  at_rest : with_front (map f fields) (fields_of start (pieces rest)) ≡ row_of line
  at_rest = ap (λ (xs : List ℕ). with_front (map f fields) (fields_of start (pieces xs))) is ∙ so_far

  pushed : map f (fields ++ field ∷ []) ≡ map f fields ++ f field ∷ []
  pushed = map-append f fields (field ∷ [])

  pub last_field : n ≡ length rest → row_of line ≡ Ok (map f (fields ++ field ∷ []))
  last_field whole = fields_last (map f fields) start n rest first (row_of line) at_rest (f field) whole read ∙ ap (λ (xs : List Field). Ok xs) (sym pushed)

  pub next_field : n < length rest → with_front (map f (fields ++ field ∷ [])) (fields_of (start + (n + 1)) (pieces (drop (start + (n + 1)) line))) ≡ row_of line
  next_field lt =
      let behind : drop (n + 1) rest ≡ drop (start + (n + 1)) line = ap (drop (n + 1)) is ∙ drop-drop (n + 1) start line in
      let place : start + n + 1 ≡ start + (n + 1) = omega arith in
      rw (pushed, ← behind, ← place) (fields_more (map f fields) start n rest first (row_of line) at_rest (f field) lt read)
