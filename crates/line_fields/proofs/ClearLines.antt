-- A line without a backslash and a carriage return reads as its pieces, and the lines of a text are texts.
use Rattle.std.proofs.Common.{◌≡◌, ℕ, zero, suc, ◌+◌, ◌<◌, ◌≤◌, Bool, true, false, not, cond, eqb, List, [], ◌∷◌, length, map, take, drop, get_or, Some, None, Result, Ok, refl, sym, ap, subst, ◌∙◌, inl, inr, zero-add, arith}
use Rattle.std.specs.List.{AllByRecursion, position_or_len}
use Rattle.std.specs.Str.{bytes_eq}
use Rattle.std.proofs.lemmas.Bool.{true≢false, or_parts, or_from, false_from_ne_true, not-true, not-false, eqb-true, eq-eqb, cases_lt}
use Rattle.std.proofs.lemmas.List.{length-take, length-drop, get_or-take, get_or-drop, take_all, drop_all}
use Rattle.std.proofs.lemmas.List.Sums.{prefix_len_passes, prefix_len_stops}
use Rattle.std.proofs.lemmas.Slice.Eq.{bytes_eq-Decides}
use Rattle.std.proofs.lemmas.Str.{IsUtf8-take, IsUtf8-drop, IsCharBoundary-before_ascii, IsCharBoundary-after_ascii}
use Rattle.memchr.specs.Find.{Nowhere, Passes, is_byte, is_byte2}
use Rattle.copy_text.specs.declared.fault.CopyFault.{CopyFault}
use Rattle.copy_text.specs.Marks.{tab, newline, backslash, carriage_return, null_mark, end_mark}
use Rattle.copy_text.specs.Lines.{before_end_mark, data_lines, lines}
use Rattle.copy_text.specs.Pieces.{pieces, IsFirstPiece}
use Rattle.copy_text.specs.Reading.{◌>>=◌, field_of, fields_of, row_of}
use Rattle.copy_text.specs.Rows.{Field}
use Rattle.copy_text.specs.Texts.{IsText}
use Rattle.copy_text.proofs.EscapeLemmas.{decode_plain, ends_plain}
use Rattle.copy_text.proofs.FieldLemmas.{field_text, some_text, absent_at}
use Rattle.copy_text.proofs.LineLemmas.{len_of, lines_first, lines_nil}
use Rattle.copy_text.proofs.PieceLemmas.{first_piece_ends, first_piece_cut}
use Rattle.copy_text.proofs.RowLemmas.{fields_cons, fields_nil}

abbrev pub Clear : List ℕ → Type 0
Clear xs = Nowhere (Passes (is_byte2 backslash carriage_return) xs) 0 (length xs)

pub neither : (xs : List ℕ) (k : ℕ) → Clear xs → k < length xs → (eqb (get_or xs k 0) backslash ≡ false) × (eqb (get_or xs k 0) carriage_return ≡ false)
neither xs k clear lt = or_parts _ _ (false_from_ne_true _ (clear k (omega arith) lt))

pub clear_take : (n : ℕ) (xs : List ℕ) → n ≤ length xs → Clear xs → Clear (take n xs)
clear_take n xs le clear k low lt here =
    let below : k < n = omega (arith, length-take n xs) in
    clear k low (omega arith) (ap (is_byte2 backslash carriage_return) (sym (get_or-take n xs k 0 below)) ∙ here)

pub clear_drop : (n : ℕ) (xs : List ℕ) → Clear xs → Clear (drop n xs)
clear_drop n xs clear k low lt here =
    clear (n + k) (omega arith) (omega (arith, length-drop n xs)) (ap (is_byte2 backslash carriage_return) (sym (get_or-drop n xs k 0)) ∙ here)

-- ---- a piece that spells itself

module _ (piece : List ℕ) (clear : Clear piece) where
  no_backslash : Nowhere (Passes (is_byte backslash) piece) 0 (length piece)
  no_backslash k low lt here = true≢false (sym here ∙ (neither piece k clear lt).0)

  no_return : Nowhere (Passes (is_byte carriage_return) piece) 0 (length piece)
  no_return k low lt here = true≢false (sym here ∙ (neither piece k clear lt).1)

  not_null : bytes_eq piece null_mark ≡ false
  not_null = false_from_ne_true _ (λ same. has ((bytes_eq-Decides piece null_mark).0 same))
    where
      has : piece ≡ null_mark → ⊥
      has is =
          let lt : 0 < length piece = subst (λ (xs : List ℕ). 0 < length xs) (sym is) (omega arith) in
          let first : get_or piece 0 0 ≡ backslash = ap (λ (xs : List ℕ). get_or xs 0 0) is in
          no_backslash 0 (omega arith) lt (eq-eqb _ _ first)

  spelled : (start : ℕ) → IsText piece → field_of start piece ≡ Ok (Some piece)
  spelled start text =
      let whole = decode_plain piece no_backslash in
      field_text start piece (absent_at piece None no_return refl) (some_text piece piece (sym whole) text) (sym (ends_plain piece no_backslash)) not_null
      ∙ ap (λ (xs : List ℕ). Ok (Some xs)) whole

-- ---- cuts of a text at ASCII

pub cut_at : (n : ℕ) (xs : List ℕ) → n < length xs → get_or xs n 0 < 128 → IsText xs → IsText (take n xs) × IsText (drop (n + 1) xs)
cut_at n xs lt ascii text = (IsUtf8-take xs n text (IsCharBoundary-before_ascii xs n lt ascii), IsUtf8-drop xs (n + 1) text (IsCharBoundary-after_ascii xs n text lt ascii))

-- the place of the first tab, or the length
abbrev tab_at : List ℕ → ℕ
tab_at xs = position_or_len (λ b. eqb b tab) xs

module _ (xs : List ℕ) (clear : Clear xs) where
  neither_before : (k : ℕ) → k < tab_at xs → k < length xs → is_byte2 tab backslash (get_or xs k 0) ≡ false
  neither_before k lt within = or_from _ _ (not-true _ (prefix_len_passes (λ (b : ℕ). not (eqb b tab)) xs k 0 lt)) (neither xs k clear within).0

  none_before : (n : ℕ) → n ≤ tab_at xs → n ≤ length xs → Nowhere (Passes (is_byte2 tab backslash) xs) 0 n
  none_before n le within k low lt here = true≢false (sym here ∙ neither_before k (omega arith) (omega arith))

  is_tab : tab_at xs < length xs → get_or xs (tab_at xs) 0 ≡ tab
  is_tab lt = eqb-true _ _ (not-false _ (prefix_len_stops (λ (b : ℕ). not (eqb b tab)) xs 0 lt))

  whole_piece : length xs ≤ tab_at xs → pieces xs ≡ xs ∷ []
  whole_piece le = (first_piece_ends xs 0 (omega arith) refl (none_before (length xs) le (omega arith))).last refl

  first_piece : tab_at xs < length xs → pieces xs ≡ take (tab_at xs) xs ∷ pieces (drop (tab_at xs + 1) xs)
  first_piece lt =
      let n : ℕ = tab_at xs in
      let start : 0 + n ≡ n = zero-add n in
      let first : IsFirstPiece xs (0 + n) = first_piece_cut xs 0 n lt (omega arith) refl (none_before n (omega arith) (omega arith)) (ap (λ (m : ℕ). get_or xs m 0) start ∙ is_tab lt) in
      let same : IsFirstPiece xs n = subst (λ (m : ℕ). IsFirstPiece xs m) start first in
      same.cut lt

-- ---- all pieces

one_more : (start next : ℕ) (piece : List ℕ) (more : List (List ℕ)) → next ≡ start + length piece + 1 → field_of start piece ≡ Ok (Some piece) → fields_of next more ≡ Ok (map Some more) → fields_of start (piece ∷ more) ≡ Ok (map Some (piece ∷ more))
one_more start next piece more is one all =
    fields_cons start piece more
    ∙ ap (λ (r : Result Field CopyFault). r >>= λ field. fields_of (start + length piece + 1) more >>= λ others. Ok (field ∷ others)) one
    ∙ ap (λ (n : ℕ). fields_of n more >>= λ others. Ok (Some piece ∷ others)) (sym is)
    ∙ ap (λ (r : Result (List Field) CopyFault). r >>= λ others. Ok (Some piece ∷ others)) all

module _ (start : ℕ) (xs : List ℕ) (clear : Clear xs) (text : IsText xs) where
  only_one : length xs ≤ tab_at xs → fields_of start (pieces xs) ≡ Ok (map Some (pieces xs))
  only_one le =
      let is : pieces xs ≡ xs ∷ [] = whole_piece xs clear le in
      ap (fields_of start) is
      ∙ one_more start (start + length xs + 1) xs [] refl (spelled xs clear start text) (fields_nil (start + length xs + 1))
      ∙ ap (λ (ps : List (List ℕ)). Ok (map Some ps)) (sym is)

all_spelled : (fuel start : ℕ) (xs : List ℕ) → length xs ≤ fuel → Clear xs → IsText xs → fields_of start (pieces xs) ≡ Ok (map Some (pieces xs))
all_spelled zero start xs few clear text = only_one start xs clear text (omega arith)
all_spelled (suc fuel) start xs few clear text = elim (cases_lt (tab_at xs) (length xs)) [
  | inl lt ↦
      let n : ℕ = tab_at xs in
      let is : pieces xs ≡ take n xs ∷ pieces (drop (n + 1) xs) = first_piece xs clear lt in
      let cut = cut_at n xs lt (omega (arith, is_tab xs clear lt)) text in
      let next : ℕ = start + length (take n xs) + 1 in
      let later = all_spelled fuel next (drop (n + 1) xs) (omega (arith, length-drop (n + 1) xs)) (clear_drop (n + 1) xs clear) cut.1 in
      ap (fields_of start) is
      ∙ one_more start next (take n xs) (pieces (drop (n + 1) xs)) refl (spelled (take n xs) (clear_take n xs (omega arith) clear) start cut.0) later
      ∙ ap (λ (ps : List (List ℕ)). Ok (map Some ps)) (sym is)
  | inr le ↦ only_one start xs clear text le
]

pub reads_as_pieces : (line : List ℕ) → Clear line → IsText line → row_of line ≡ Ok (map Some (pieces line))
unfolding row_of
reads_as_pieces line clear text = all_spelled (length line) 0 line (omega arith) clear text

-- ---- the lines of a text

pub line_ends : (text : List ℕ) → len_of text < length text → get_or text (len_of text) 0 ≡ newline
line_ends text lt = eqb-true _ _ (not-false _ (prefix_len_stops (λ (b : ℕ). not (eqb b newline)) text 0 lt))

all_texts : (fuel : ℕ) (text : List ℕ) → length text ≤ fuel → IsText text → AllByRecursion IsText (lines text)
all_texts zero text few is = subst (AllByRecursion IsText) (sym (nothing text few)) tt
  where
    nothing : (xs : List ℕ) → length xs ≤ 0 → lines xs ≡ []
    nothing [] le = lines_nil
    nothing (x ∷ xs) le = absurd (omega arith)
all_texts (suc fuel) text few is = elim (cases_lt (len_of text) (length text)) [
  | inl lt ↦
      let n : ℕ = len_of text in
      let cut = cut_at n text lt (omega (arith, line_ends text lt)) is in
      subst (AllByRecursion IsText) (sym (lines_first text (omega arith))) (cut.0, all_texts fuel (drop (n + 1) text) (omega (arith, length-drop (n + 1) text)) cut.1)
  | inr le ↦ elim (cases_lt 0 (length text)) [
    | inl some ↦
        let n : ℕ = len_of text in
        let all : take n text ≡ text = take_all n text le in
        let none : lines (drop (n + 1) text) ≡ [] = ap lines (drop_all (n + 1) text (omega arith)) ∙ lines_nil in
        subst (AllByRecursion IsText) (sym (lines_first text some)) (subst IsText (sym all) is, subst (AllByRecursion IsText) (sym none) tt)
    | inr nothing ↦ all_texts fuel text (omega arith) is
  ]
]

up_to_mark : (P : List ℕ → Type 0) (all : List (List ℕ)) → AllByRecursion P all → AllByRecursion P (before_end_mark all)
up_to_mark P [] so = tt
up_to_mark P (line ∷ more) so = by (bytes_eq line end_mark) (up_to_mark P more so.1)
  where
    by : (b : Bool) → AllByRecursion P (before_end_mark more) → AllByRecursion P (cond b [] (line ∷ before_end_mark more))
    by true later = tt
    by false later = (so.0, later)

pub data_lines_are_texts : (text : List ℕ) → IsText text → AllByRecursion IsText (data_lines text)
data_lines_are_texts text is = up_to_mark IsText (lines text) (all_texts (length text) text (omega arith) is)
