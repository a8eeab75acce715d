-- A piece without a backslash stands for itself where its line reads, and the row has its text at its place.
use Rattle.std.proofs.Common.{◌≡◌, ℕ, zero, suc, ◌+◌, ◌-◌, ◌<◌, ◌≤◌, Bool, true, false, not, ◌&&◌, cond, eqb, ltb, List, [], ◌∷◌, length, take, drop, get_or, Some, None, Result, Ok, Err, refl, sym, ap, subst, ◌∙◌, inl, inr, zero-add, arith}
use Rattle.std.specs.List.{slice_get}
use Rattle.std.specs.Str.{bytes_eq, is_utf8}
use Rattle.std.proofs.lemmas.Bool.{true≢false, or_parts, false_from_ne_true, eq-eqb, cases_lt}
use Rattle.std.proofs.lemmas.List.{length-take, get_or-take, take_all}
use Rattle.std.proofs.lemmas.Slice.Eq.{bytes_eq-Decides}
use Rattle.memchr.specs.Find.{Nowhere, Passes, is_byte, is_byte2}
use Rattle.copy_text.specs.declared.fault.CopyFault.{CopyFault}
use Rattle.copy_text.specs.declared.fault.CopyFault.TheVariants.{RawReturn, BadUtf8, EndsInBackslash}
use Rattle.copy_text.specs.Marks.{tab, backslash, null_mark}
use Rattle.copy_text.specs.Escapes.{decode}
use Rattle.copy_text.specs.Pieces.{pieces, ends_in_backslash, IsFirstPiece}
use Rattle.copy_text.specs.Reading.{◌>>=◌, field_of, fields_of, row_of}
use Rattle.copy_text.specs.Rows.{Field}
use Rattle.copy_text.proofs.EscapeLemmas.{decode_plain}
use Rattle.copy_text.proofs.FieldLemmas.{return_at}
use Rattle.copy_text.proofs.PieceLemmas.{first_piece_ends, first_piece_cut}
use Rattle.copy_text.proofs.RowLemmas.{fields_cons}
use Rattle.line_fields.specs.Fields.{StandsForItself, IsRawFirst, IsFirst, IsBehindFirst}

abbrev Run : List ℕ → ℕ → Type 0
Run line n = Nowhere (Passes (is_byte2 tab backslash) line) 0 n

-- ---- what a piece without a backslash spells

picked : (a b c d e : Bool) (x y z w : CopyFault) (text : List ℕ) (field : Field) → e ≡ false
    → cond {A = Result Field CopyFault} a (Err x) (cond b (Err y) (cond c (Err z) (cond d (Err w) (cond e (Ok None) (Ok (Some text)))))) ≡ Ok field → field ≡ Some text
picked true b c d e x y z w text field other is = absurd cc
picked false true c d e x y z w text field other is = absurd cc
picked false false true d e x y z w text field other is = absurd cc
picked false false false true e x y z w text field other is = absurd cc
picked false false false false true x y z w text field other is = absurd cc
picked false false false false false x y z w text field other is = cc

spelled : (piece : List ℕ) → decode piece ≡ piece → bytes_eq piece null_mark ≡ false → StandsForItself piece
unfolding field_of
spelled piece whole other start field is =
    picked (ltb (return_at piece) (length piece) && eqb (return_at piece) 0) (not (is_utf8 (decode piece))) (ltb (return_at piece) (length piece)) (ends_in_backslash piece) (bytes_eq piece null_mark)
    (RawReturn start) (BadUtf8 start) (RawReturn (start + return_at piece)) (EndsInBackslash (start + length piece - 1)) (decode piece) field other is
    ∙ ap (λ (xs : List ℕ). Some xs) whole

module _ (line : List ℕ) (n : ℕ) (within : n ≤ length line) (none : Run line n) where
  abbrev piece : List ℕ
  piece = take n line

  long : length piece ≡ n
  long = omega (arith, length-take n line)

  no_backslash : Nowhere (Passes (is_byte backslash) piece) 0 (length piece)
  no_backslash k low lt here =
      let below : k < n = omega (arith, long) in
      let same : get_or piece k 0 ≡ get_or line k 0 = get_or-take n line k 0 below in
      let fails = or_parts (eqb (get_or line k 0) tab) (eqb (get_or line k 0) backslash) (false_from_ne_true _ (none k (omega arith) below)) in
      true≢false (sym here ∙ ap (λ (b : ℕ). eqb b backslash) same ∙ fails.1)

  not_null : bytes_eq piece null_mark ≡ false
  not_null = false_from_ne_true _ (λ same. has ((bytes_eq-Decides piece null_mark).0 same))
    where
      has : piece ≡ null_mark → ⊥
      has is =
          let lt : 0 < length piece = subst (λ (xs : List ℕ). 0 < length xs) (sym is) (omega arith) in
          let first : get_or piece 0 0 ≡ backslash = ap (λ (xs : List ℕ). get_or xs 0 0) is in
          no_backslash 0 (omega arith) lt (eq-eqb _ _ first)

  raw_first : IsFirstPiece line n → IsRawFirst line n
  raw_first first = record { piece = first; stands = spelled piece (decode_plain piece no_backslash) not_null }

-- nothing was found: the first piece is the whole line
pub raw_line : (line : List ℕ) → Run line (length line) → IsRawFirst line (length line)
raw_line line none = raw_first line (length line) (omega arith) none (first_piece_ends line 0 (omega arith) refl none)

-- a tab was found
pub raw_cut : (line : List ℕ) (n : ℕ) → n < length line → Run line n → get_or line n 0 ≡ tab → IsRawFirst line n
raw_cut line n lt none here =
    let start : 0 + n ≡ n = zero-add n in
    let cut : IsFirstPiece line (0 + n) = first_piece_cut line 0 n lt (omega arith) refl none (ap (λ (m : ℕ). get_or line m 0) start ∙ here) in
    raw_first line n (omega arith) none (subst (λ (m : ℕ). IsFirstPiece line m) start cut)

-- ---- the piece in front, and those behind it

pub in_front : (line piece : List ℕ) (n : ℕ) → IsRawFirst line n → piece ≡ take n line → IsFirst line piece
in_front line piece n raw is = subst (IsFirst line) (sym is) (record { first = elim (cases_lt n (length line)) [ inl lt ↦ cut lt | inr le ↦ last le ]; stands = raw.stands })
  where
    cut : n < length line → slice_get (pieces line) 0 ≡ Some (take n line)
    cut lt = ap (λ (ps : List (List ℕ)). slice_get ps 0) (raw.piece.cut lt)

    last : length line ≤ n → slice_get (pieces line) 0 ≡ Some (take n line)
    last le =
        let whole : n ≡ length line = omega (arith, raw.piece.within) in
        ap (λ (ps : List (List ℕ)). slice_get ps 0) (raw.piece.last whole) ∙ ap (λ (xs : List ℕ). Some xs) (sym (take_all n line le))

pub behind_front : (line behind : List ℕ) (n : ℕ) → IsRawFirst line n → n < length line → behind ≡ drop (n + 1) line → IsBehindFirst line behind
behind_front line behind n raw lt is = record { piece = take n line; parts = raw.piece.cut lt ∙ ap (λ (xs : List ℕ). take n line ∷ pieces xs) (sym is) }

-- ---- the field at a place

-- the fields that pieces spell have at a place what the piece there spells
field_spelled : (start k : ℕ) (parts : List (List ℕ)) (row : List Field) (piece : List ℕ) → StandsForItself piece → slice_get parts k ≡ Some piece → fields_of start parts ≡ Ok row → slice_get row k ≡ Some (Some piece)
field_spelled start k [] row piece stands at reads = absurd cc
field_spelled start k (part ∷ parts) row piece stands at reads =
    by (field_of start part) refl (fields_of (start + length part + 1) parts) (λ i others. field_spelled (start + length part + 1) i parts others piece stands) (sym (fields_cons start part parts) ∙ reads)
  where
    front : (j : ℕ) (field : Field) (others : List Field) → field_of start part ≡ Ok field → ((i : ℕ) → slice_get parts i ≡ Some piece → slice_get others i ≡ Some (Some piece)) → slice_get (part ∷ parts) j ≡ Some piece → slice_get (field ∷ others) j ≡ Some (Some piece)
    front zero field others one more here =
        let same : part ≡ piece = cc in
        let text : field ≡ Some piece = stands start field (ap (field_of start) (sym same) ∙ one) in
        ap (λ (f : Field). Some f) text
    front (suc i) field others one more there = more i there

    by : (one : Result Field CopyFault) → field_of start part ≡ one → (rest : Result (List Field) CopyFault)
        → ((i : ℕ) (others : List Field) → slice_get parts i ≡ Some piece → rest ≡ Ok others → slice_get others i ≡ Some (Some piece))
        → (one >>= λ field. rest >>= λ others. Ok (field ∷ others)) ≡ Ok row → slice_get row k ≡ Some (Some piece)
    by (Err f) is rest more all = absurd cc
    by (Ok field) is (Err f) more all = absurd cc
    by (Ok field) is (Ok others) more all =
        let whole : field ∷ others ≡ row = cc in
        ap (λ (fs : List Field). slice_get fs k) (sym whole) ∙ front k field others is (λ i there. more i others there refl) at

pub field_there : (line : List ℕ) (place : ℕ) (piece : List ℕ) (row : List Field) → StandsForItself piece → slice_get (pieces line) place ≡ Some piece → row_of line ≡ Ok row → slice_get row place ≡ Some (Some piece)
unfolding row_of
field_there line place piece row stands at reads = field_spelled 0 place (pieces line) row piece stands at reads

-- ---- one piece more

-- the pieces from the i-th on are those of what is left
abbrev pub Left : List ℕ → ℕ → List ℕ → Type 0
Left line i rest = (k : ℕ) → slice_get (pieces line) (i + k) ≡ slice_get (pieces rest) k

pub left_all : (line : List ℕ) → Left line 0 line
left_all line k = ap (slice_get (pieces line)) (zero-add k)

pub left_next : (line rest behind : List ℕ) (i : ℕ) → Left line i rest → IsBehindFirst rest behind → Left line (i + 1) behind
left_next line rest behind i so_far is k =
    let place : i + 1 + k ≡ i + suc k = omega arith in
    ap (slice_get (pieces line)) place ∙ so_far (suc k) ∙ ap (λ (ps : List (List ℕ)). slice_get ps (suc k)) is.parts

pub left_first : (line rest piece : List ℕ) (place : ℕ) → Left line place rest → IsFirst rest piece → slice_get (pieces line) place ≡ Some piece
left_first line rest piece place so_far is =
    let place_is : place ≡ place + 0 = omega arith in
    ap (slice_get (pieces line)) place_is ∙ so_far 0 ∙ is.first
