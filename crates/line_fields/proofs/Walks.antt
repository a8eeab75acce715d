-- The first field of a text without an escape, and its first line.
use Rattle.std.proofs.Common.{◌≡◌, ℕ, zero, suc, ◌+◌, ◌<◌, ◌≤◌, Bool, true, false, cond, ◌||◌, not, eqb, List, [], ◌∷◌, ◌++◌, length, length-append, append_assoc, map, take, drop, get_or, Some, Ok, refl, sym, ap, subst, ◌∙◌, inl, inr, ◌⊎◌, zero-add, arith}
use Rattle.std.specs.List.{slice_get}
use Rattle.std.specs.Str.{bytes_eq}
use Rattle.std.proofs.lemmas.Bool.{true≢false, or_parts, or_from, false_from_ne_true, not-true, eqb-true, eq-eqb, cases_lt, cases_Bool}
use Rattle.std.proofs.lemmas.List.{length-take, length-drop, get_or-take, take_all, drop_all, take-take, drop-take, drop-drop}
use Rattle.std.proofs.lemmas.List.Sums.{prefix_len_passes}
use Rattle.std.proofs.lemmas.Slice.Eq.{bytes_eq-Decides}
use Rattle.std.proofs.lemmas.Str.{IsUtf8-nil}
use Rattle.memchr.specs.Find.{Nowhere, Passes, is_byte, is_byte2}
use Rattle.copy_text.specs.Marks.{tab, newline, backslash, end_mark}
use Rattle.copy_text.specs.Lines.{before_end_mark, data_lines}
use Rattle.copy_text.specs.Pieces.{pieces, IsFirstPiece}
use Rattle.copy_text.specs.Reading.{row_of}
use Rattle.copy_text.specs.Texts.{IsText}
use Rattle.copy_text.proofs.LineLemmas.{len_of, len_within, lines_first}
use Rattle.copy_text.proofs.PieceLemmas.{first_piece_ends, first_piece_cut}
use Rattle.line_fields.specs.Clear.{IsClear, IsClearText, IsFirstField, line_len, first_line, behind_line}
use Rattle.line_fields.proofs.ClearLines.{clear_take, clear_drop, cut_at, line_ends, neither, reads_as_pieces}

-- ---- where the first line ends

-- neither a tab nor a newline stands before n
abbrev Run : List ℕ → ℕ → Type 0
Run text n = Nowhere (Passes (is_byte2 tab newline) text) 0 n

unmarked : (text : List ℕ) (n k : ℕ) → Run text n → k < n → (eqb (get_or text k 0) tab ≡ false) × (eqb (get_or text k 0) newline ≡ false)
unmarked text n k none lt = or_parts _ _ (false_from_ne_true _ (none k (omega arith) lt))

-- a line without a newline up to n is as long
no_shorter : (text : List ℕ) (n : ℕ) → n ≤ length text → ((k : ℕ) → k < n → eqb (get_or text k 0) newline ≡ false) → n ≤ len_of text
no_shorter text n within none = elim (cases_lt (len_of text) n) [
  | inl lt ↦
      let here : get_or text (len_of text) 0 ≡ newline = line_ends text (omega arith) in
      absurd (true≢false (sym (eq-eqb _ _ here) ∙ none (len_of text) lt))
  | inr le ↦ le
]

-- a line ends at a newline
no_longer : (text : List ℕ) (n : ℕ) → get_or text n 0 ≡ newline → len_of text ≤ n
no_longer text n here = elim (cases_lt n (len_of text)) [
  | inl lt ↦ absurd (true≢false (sym (eq-eqb _ _ here) ∙ not-true _ (prefix_len_passes (λ (b : ℕ). not (eqb b newline)) text n 0 lt)))
  | inr le ↦ le
]

ends_at : (text : List ℕ) (n : ℕ) → n ≤ length text → ((k : ℕ) → k < n → eqb (get_or text k 0) newline ≡ false) → get_or text n 0 ≡ newline → len_of text ≡ n
ends_at text n within none here =
    let low = no_shorter text n within none in
    let high = no_longer text n here in
    omega arith

ends_last : (text : List ℕ) → ((k : ℕ) → k < length text → eqb (get_or text k 0) newline ≡ false) → len_of text ≡ length text
ends_last text none =
    let low = no_shorter text (length text) (omega arith) none in
    let high = len_within text in
    omega arith

other_first : (b : ℕ) (rest : List ℕ) → eqb b newline ≡ false → len_of (b ∷ rest) ≡ suc (len_of rest)
other_first b rest other = rw other (omega arith)

-- bytes that are no newline belong to the line
goes_past : (n : ℕ) (text : List ℕ) → n ≤ length text → ((k : ℕ) → k < n → eqb (get_or text k 0) newline ≡ false) → len_of text ≡ n + len_of (drop n text)
goes_past zero text within none = sym (zero-add (len_of text))
goes_past (suc n) [] within none = absurd (omega arith)
goes_past (suc n) (b ∷ rest) within none =
    let later = goes_past n rest (omega arith) (λ k lt. none (suc k) (omega arith)) in
    let front = other_first b rest (none 0 (omega arith)) in
    omega arith

-- ---- the first field

module _ (text : List ℕ) (clear : IsClear text) where
  uncut : (n : ℕ) → n ≤ length text → Run text n → Nowhere (Passes (is_byte2 tab backslash) text) 0 n
  uncut n within none k low lt here = true≢false (sym here ∙ or_from _ _ (unmarked text n k none lt).0 (neither text k clear (omega arith)).0)

  uncut_front : (m n : ℕ) → n ≤ m → n ≤ length text → Run text n → Nowhere (Passes (is_byte2 tab backslash) (take m text)) 0 n
  uncut_front m n fits within none k low lt here =
      let below : k < m = omega arith in
      uncut n within none k low lt (sym (ap (is_byte2 tab backslash) (get_or-take m text k 0 below)) ∙ here)

  -- nothing was found: the text is one piece
  pub whole_field : Run text (length text) → IsFirstField text text false []
  unfolding first_line behind_line
  whole_field none =
      let len : line_len text ≡ length text = ends_last text (λ k lt. (unmarked text (length text) k none lt).1) in
      let line : take (line_len text) text ≡ text = take_all (line_len text) text (omega arith) in
      let part : pieces text ≡ text ∷ [] = (first_piece_ends text 0 (omega arith) refl (uncut (length text) (omega arith) none)).last refl in
      record {
        goes_on = λ more. absurd cc;
        same_line = λ more. absurd cc;
        ends = λ _. ap pieces line ∙ part;
        next_line = λ _. drop_all (line_len text + 1) text (omega arith);
        clear = λ k low lt here. absurd (omega arith);
      }

  module _ (n : ℕ) (lt : n < length text) (none : Run text n) where
    no_newline : (k : ℕ) → k < n → eqb (get_or text k 0) newline ≡ false
    no_newline k below = (unmarked text n k none below).1

    -- a newline was found
    last_field : get_or text n 0 ≡ newline → IsFirstField text (take n text) false (drop (n + 1) text)
    unfolding first_line behind_line
    last_field here =
        let len : line_len text ≡ n = ends_at text n (omega arith) no_newline here in
        let line : take (line_len text) text ≡ take n text = ap (λ (m : ℕ). take m text) len in
        let long : length (take n text) ≡ n = omega (arith, length-take n text) in
        let run : Nowhere (Passes (is_byte2 tab backslash) (take n text)) 0 (length (take n text)) = subst (λ (m : ℕ). Nowhere (Passes (is_byte2 tab backslash) (take n text)) 0 m) (sym long) (uncut_front n n (omega arith) (omega arith) none) in
        let part : pieces (take n text) ≡ take n text ∷ [] = (first_piece_ends (take n text) 0 (omega arith) refl run).last refl in
        record {
          goes_on = λ more. absurd cc;
          same_line = λ more. absurd cc;
          ends = λ _. ap pieces line ∙ part;
          next_line = λ _. ap (λ (m : ℕ). drop (m + 1) text) len;
          clear = clear_drop (n + 1) text clear;
        }

    -- a tab was found
    next_field : get_or text n 0 ≡ tab → IsFirstField text (take n text) true (drop (n + 1) text)
    unfolding first_line behind_line
    next_field here =
        let behind : List ℕ = drop (n + 1) text in
        let e : ℕ = line_len behind in
        let len : line_len text ≡ n + 1 + e = goes_past (n + 1) text (omega arith) no_newline_yet in
        let short : e ≤ length behind = len_within behind in
        let fits : n + 1 + e ≤ length text = omega (arith, length-drop (n + 1) text) in
        let line : List ℕ = take (n + 1 + e) text in
        let is : take (line_len text) text ≡ line = ap (λ (m : ℕ). take m text) len in
        let long : n < length line = omega (arith, length-take (n + 1 + e) text) in
        let start : 0 + n ≡ n = zero-add n in
        let there : get_or line (0 + n) 0 ≡ tab = ap (λ (m : ℕ). get_or line m 0) start ∙ get_or-take (n + 1 + e) text n 0 (omega arith) ∙ here in
        let first : IsFirstPiece line (0 + n) = first_piece_cut line 0 n long (omega arith) refl (uncut_front (n + 1 + e) n (omega arith) (omega arith) none) there in
        let same : IsFirstPiece line n = subst (λ (m : ℕ). IsFirstPiece line m) start first in
        let front : take n line ≡ take n text = take-take n (n + 1 + e) text (omega arith) in
        let rest : drop (n + 1) line ≡ take e behind = drop-take (n + 1) e text in
        let after : n + 1 + e + 1 ≡ n + 1 + (e + 1) = omega arith in
        record {
          goes_on = λ _. ap pieces is ∙ same.cut long ∙ ap (λ (p : List ℕ). p ∷ pieces (drop (n + 1) line)) front ∙ ap (λ (xs : List ℕ). take n text ∷ pieces xs) rest;
          same_line = λ _. ap (λ (m : ℕ). drop (m + 1) text) len ∙ ap (λ (m : ℕ). drop m text) after ∙ sym (drop-drop (e + 1) (n + 1) text);
          ends = λ none. absurd cc;
          next_line = λ none. absurd cc;
          clear = clear_drop (n + 1) text clear;
        }
      where
        no_newline_yet : (k : ℕ) → k < n + 1 → eqb (get_or text k 0) newline ≡ false
        no_newline_yet k below = elim (cases_lt k n) [
          | inl before ↦ no_newline k before
          | inr le ↦
              let same : k ≡ n = omega arith in
              ap (λ (m : ℕ). eqb (get_or text m 0) newline) same ∙ ap (λ (b : ℕ). eqb b newline) here
        ]

    -- one of both was found
    found : is_byte2 tab newline (get_or text n 0) ≡ true → IsFirstField text (take n text) (eqb (get_or text n 0) tab) (drop (n + 1) text)
    found either = by (cases_Bool (eqb (get_or text n 0) tab))
      where
        by : (eqb (get_or text n 0) tab ≡ true) ⊎ (eqb (get_or text n 0) tab ≡ false) → IsFirstField text (take n text) (eqb (get_or text n 0) tab) (drop (n + 1) text)
        by (inl is) = subst (λ (b : Bool). IsFirstField text (take n text) b (drop (n + 1) text)) (sym is) (next_field (eqb-true _ _ is))
        by (inr other) =
            let newline_is : eqb (get_or text n 0) newline ≡ true = ap (λ (b : Bool). b || eqb (get_or text n 0) newline) (sym other) ∙ either in
            subst (λ (b : Bool). IsFirstField text (take n text) b (drop (n + 1) text)) (sym other) (last_field (eqb-true _ _ newline_is))

    pub found_field : (piece behind : List ℕ) → piece ≡ take n text → behind ≡ drop (n + 1) text → is_byte2 tab newline (get_or text n 0) ≡ true → IsFirstField text piece (eqb (get_or text n 0) tab) behind
    found_field piece behind front back either =
        subst (λ (p : List ℕ). IsFirstField text p (eqb (get_or text n 0) tab) behind) (sym front)
        (subst (IsFirstField text (take n text) (eqb (get_or text n 0) tab)) (sym back) (found either))

-- ---- behind the first line

only_newline : (text : List ℕ) (n k : ℕ) → Nowhere (Passes (is_byte newline) text) 0 n → k < n → eqb (get_or text k 0) newline ≡ false
only_newline text n k none lt = false_from_ne_true _ (none k (omega arith) lt)

pub behind_newline : (text : List ℕ) (n : ℕ) → n < length text → Nowhere (Passes (is_byte newline) text) 0 n → is_byte newline (get_or text n 0) ≡ true → behind_line text ≡ drop (n + 1) text
unfolding behind_line
behind_newline text n lt none here = ap (λ (m : ℕ). drop (m + 1) text) (ends_at text n (omega arith) (λ k below. only_newline text n k none below) (eqb-true _ _ here))

pub nothing_behind : (text : List ℕ) → Nowhere (Passes (is_byte newline) text) 0 (length text) → behind_line text ≡ []
unfolding behind_line
nothing_behind text none =
    let len : line_len text ≡ length text = ends_last text (λ k below. only_newline text (length text) k none below) in
    drop_all (line_len text + 1) text (omega arith)

-- ---- the lines of a clear text

-- the first line of a clear text is a row of its pieces, and the rest is such a text
pub record IsClearLine (text : List ℕ) : Type 0 where
  pub split : data_lines text ≡ first_line text ∷ data_lines (behind_line text)
  pub line : IsText (first_line text)
  pub reads : row_of (first_line text) ≡ Ok (map Some (pieces (first_line text)))
  pub rest : IsClearText (behind_line text)

no_mark : (line : List ℕ) → IsClear line → bytes_eq line end_mark ≡ false
no_mark line clear = false_from_ne_true _ (λ same. has ((bytes_eq-Decides line end_mark).0 same))
  where
    has : line ≡ end_mark → ⊥
    has is =
        let lt : 0 < length line = subst (λ (xs : List ℕ). 0 < length xs) (sym is) (omega arith) in
        let first : get_or line 0 0 ≡ backslash = ap (λ (xs : List ℕ). get_or xs 0 0) is in
        true≢false (sym (eq-eqb _ _ first) ∙ (neither line 0 clear lt).0)

texts_cut : (text : List ℕ) → 0 < length text → IsText text → IsText (take (len_of text) text) × IsText (drop (len_of text + 1) text)
texts_cut text some utf8 = elim (cases_lt (len_of text) (length text)) [
  | inl lt ↦ cut_at (len_of text) text lt (omega (arith, line_ends text lt)) utf8
  | inr le ↦ (
    subst IsText (sym (take_all (len_of text) text le)) utf8,
    subst IsText (sym (drop_all (len_of text + 1) text (omega arith))) IsUtf8-nil,
  )
]

pub clear_line : (text : List ℕ) → 0 < length text → IsClearText text → IsClearLine text
unfolding first_line behind_line
clear_line text some is =
    let n : ℕ = len_of text in
    let line : List ℕ = take n text in
    let behind : List ℕ = drop (n + 1) text in
    let clear : IsClear line = clear_take n text (len_within text) is.clear in
    let cut = texts_cut text some is.utf8 in
    record {
      split = ap before_end_mark (lines_first text some) ∙ ap (λ (b : Bool). cond b [] (line ∷ data_lines behind)) (no_mark line clear);
      line = cut.0;
      reads = reads_as_pieces line clear cut.0;
      rest = record { utf8 = cut.1; clear = clear_drop (n + 1) text is.clear };
    }

-- ---- how far the first line was gone over

-- so many pieces of the first line stand in front of those of what is left, which ends with the line
pub record IsReached (text : List ℕ) (i : ℕ) (rest : List ℕ) : Type 0 where
  pub clear : IsClear rest
  pub line : behind_line text ≡ behind_line rest
  pub front : List (List ℕ)
  pub many : length front ≡ i
  pub parts : pieces (first_line text) ≡ front ++ pieces (first_line rest)

pub reached_start : (text : List ℕ) → IsClear text → IsReached text 0 text
reached_start text clear = record { clear = clear; line = refl; front = []; many = refl; parts = refl }

pub reached_next : (text : List ℕ) (i : ℕ) (rest piece : List ℕ) (more : Bool) (behind : List ℕ) → IsReached text i rest → more ≡ true → IsFirstField rest piece more behind → IsReached text (i + 1) behind
reached_next text i rest piece more behind so_far is field = record {
  clear = field.clear;
  line = so_far.line ∙ field.same_line is;
  front = so_far.front ++ piece ∷ [];
  many = length-append so_far.front (piece ∷ []) ∙ ap (λ (n : ℕ). n + 1) so_far.many;
  parts = so_far.parts ∙ ap (λ (ps : List (List ℕ)). so_far.front ++ ps) (field.goes_on is) ∙ sym (append_assoc so_far.front (piece ∷ []) (pieces (first_line behind)));
}

-- the line has one piece more
pub reached_last : (text : List ℕ) (i : ℕ) (rest piece : List ℕ) (more : Bool) (behind : List ℕ) → IsReached text i rest → more ≡ false → IsFirstField rest piece more behind → length (pieces (first_line text)) ≡ i + 1
reached_last text i rest piece more behind so_far is field =
    ap (λ (ps : List (List ℕ)). length ps) (so_far.parts ∙ ap (λ (ps : List (List ℕ)). so_far.front ++ ps) (field.ends is))
    ∙ length-append so_far.front (piece ∷ []) ∙ ap (λ (n : ℕ). n + 1) so_far.many

pub reached_end : (text : List ℕ) (i : ℕ) (rest piece : List ℕ) (more : Bool) (behind : List ℕ) → IsReached text i rest → more ≡ false → IsFirstField rest piece more behind → behind_line text ≡ behind
reached_end text i rest piece more behind so_far is field = so_far.line ∙ field.next_line is

-- the piece stands at its place
pub reached_piece : (text : List ℕ) (i : ℕ) (rest piece : List ℕ) (more : Bool) (behind : List ℕ) → IsReached text i rest → IsFirstField rest piece more behind → slice_get (pieces (first_line text)) i ≡ Some piece
reached_piece text i rest piece more behind so_far field = by more field
  where
    there : (ps : List (List ℕ)) → pieces (first_line rest) ≡ piece ∷ ps → slice_get (pieces (first_line text)) i ≡ Some piece
    there ps is =
        ap (λ (n : ℕ). slice_get (pieces (first_line text)) n) (sym so_far.many)
        ∙ ap (λ (all : List (List ℕ)). slice_get all (length so_far.front)) (so_far.parts ∙ ap (λ (tail : List (List ℕ)). so_far.front ++ tail) is)
        ∙ behind_front so_far.front ps
      where
        behind_front : (front : List (List ℕ)) (tail : List (List ℕ)) → slice_get (front ++ piece ∷ tail) (length front) ≡ Some piece
        behind_front [] tail = refl
        behind_front (p ∷ front) tail = behind_front front tail

    by : (b : Bool) → IsFirstField rest piece b behind → slice_get (pieces (first_line text)) i ≡ Some piece
    by true is = there (pieces (first_line behind)) (is.goes_on refl)
    by false is = there [] (is.ends refl)
