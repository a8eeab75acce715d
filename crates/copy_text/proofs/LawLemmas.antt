-- The laws: which rows a line spells, which fault is its first, which rows a text holds.
use Rattle.std.proofs.Common.{◌≡◌, ◌≢◌, ℕ, zero, suc, ◌+◌, ◌-◌, ◌<◌, Bool, true, false, cond, eqb, List, [], ◌∷◌, ◌++◌, length, take, Some, None, Result, Ok, Err, refl, sym, ap, subst, ◌∙◌, append_assoc, arith, inl, inr, ◌⊎◌}
use Rattle.std.specs.Prelude.{slice_get}
use Rattle.std.specs.Str.{bytes_eq, is_utf8, chars}
use lib.Utf8.{encode}
use Rattle.std.proofs.lemmas.Slice.Eq.{bytes_eq-Decides}
use Rattle.std.specs.List.{All, AllZip, AllByRecursion, onto_first, join_with_byte}
use Rattle.std.proofs.lemmas.Bool.{cases_order, cases_Bool, cond-false, ne_eqb, false_from_ne_true, eqb-false, both_ways}
use Rattle.std.proofs.lemmas.List.{length-append}
use Rattle.std.proofs.lemmas.List.Sums.{sum_by-cons}
use Rattle.std.proofs.lemmas.Option.{slice_get_within}
use Rattle.copy_text.specs.declared.fault.CopyFault.{CopyFault}
use Rattle.copy_text.specs.declared.fault.CopyFault.TheVariants.{RawReturn, BadUtf8, EndsInBackslash}
use Rattle.copy_text.specs.Marks.{tab, newline, carriage_return, end_mark}
use Rattle.copy_text.specs.Texts.{IsText}
use Rattle.copy_text.specs.Pieces.{pieces, pieces_after, ends_escaping}
use Rattle.copy_text.specs.Escapes.{decode, decode_behind, escape}
use Rattle.copy_text.specs.Rows.{Field, IsField, IsRow, SpellsField, SpellsRow, spell_row, spell_rows}
use Rattle.copy_text.specs.Reading.{IsFault, IsFirstFault, ComesFirst, place, rank, start_of, field_of, fields_of, row_of}
use Rattle.copy_text.specs.Lines.{lines, before_end_mark, data_lines, SpellsRows, with_row, rows_from, rows_of_text}
use Rattle.copy_text.proofs.JoinLemmas.{join_pieces, Closed, last_ends, pieces_closed, pieces_last, after_some, each_piece, whole_line}
use Rattle.copy_text.proofs.SpellLemmas.{written_row}
use Rattle.copy_text.proofs.FaultLemmas.{ListFault, fields_read, fields_spelled, fields_fault, rows_ok}

-- ---- a fault of the line is a fault of one of its pieces

get_left : (xs ys : List ℕ) (k : ℕ) → k < length xs → slice_get (xs ++ ys) k ≡ slice_get xs k
get_left [] ys k lt = absurd (omega arith)
get_left (x ∷ xs) ys zero lt = refl
get_left (x ∷ xs) ys (suc k) lt = get_left xs ys k (omega arith)

get_right : (xs ys : List ℕ) (n k : ℕ) → n ≡ length xs + k → slice_get (xs ++ ys) n ≡ slice_get ys k
get_right [] ys n k is = let same : n ≡ k = omega arith in ap (slice_get ys) same
get_right (x ∷ xs) ys zero k is = absurd (omega arith)
get_right (x ∷ xs) ys (suc n) k is = get_right xs ys n k (omega arith)

returns_in : (start : ℕ) (parts : List (List ℕ)) (k at : ℕ) → at ≡ start + k → slice_get (join_with_byte tab parts) k ≡ Some carriage_return → ListFault start parts (RawReturn at)
returns_in start [] k at place_is is = absurd cc
returns_in start (p ∷ []) k at place_is is = inl (k, place_is, is)
returns_in start (p ∷ q ∷ ps) k at place_is is = elim (cases_order k (length p)) [
  | inl same ↦ let there : slice_get (p ++ tab ∷ rest) k ≡ Some tab = get_right p (tab ∷ rest) k 0 (omega arith) in absurd (no_tab there)
  | inr other ↦ elim other [
    | inl lt ↦ inl (k, place_is, sym (get_left p (tab ∷ rest) k lt) ∙ is)
    | inr gt ↦ inr (returns_in (start + length p + 1) (q ∷ ps) (k - length p - 1) at (omega arith) (sym (get_right p (tab ∷ rest) k (suc (k - length p - 1)) (omega arith)) ∙ is))
  ]
]
  where
    rest : List ℕ
    rest = join_with_byte tab (q ∷ ps)

    no_tab : slice_get (p ++ tab ∷ rest) k ≡ Some tab → ⊥
    no_tab there = differs (sym there ∙ is)
      where
        differs : Some tab ≡ Some carriage_return → ⊥
        differs e = let same : tab ≡ carriage_return = cc in absurd (omega arith)

returns_out : (start : ℕ) (parts : List (List ℕ)) (at : ℕ) → ListFault start parts (RawReturn at) → (k : ℕ) × (at ≡ start + k) × (slice_get (join_with_byte tab parts) k ≡ Some carriage_return)
returns_out start [] at fault = absurd fault
returns_out start (p ∷ []) at (inl fault) = fault
returns_out start (p ∷ []) at (inr fault) = absurd fault
returns_out start (p ∷ q ∷ ps) at (inl fault) =
    (fault.0, fault.1, get_left p (tab ∷ join_with_byte tab (q ∷ ps)) fault.0 (slice_get_within p fault.0 carriage_return fault.2) ∙ fault.2)
returns_out start (p ∷ q ∷ ps) at (inr fault) =
    let later = returns_out (start + length p + 1) (q ∷ ps) at fault in
    (length p + suc later.0, omega arith, get_right p (tab ∷ join_with_byte tab (q ∷ ps)) (length p + suc later.0) (suc later.0) refl ∙ later.2)

start_of_next : (i : ℕ) (p : List ℕ) (ps : List (List ℕ)) → start_of (suc i) (p ∷ ps) ≡ length p + 1 + start_of i ps
start_of_next i p ps = sum_by-cons (λ (part : List ℕ). length part + 1) p (take i ps)

bad_in : (start : ℕ) (parts : List (List ℕ)) (i at : ℕ) (piece : List ℕ) → at ≡ start + start_of i parts → slice_get parts i ≡ Some piece → ¬ (IsText (decode piece)) → ListFault start parts (BadUtf8 at)
bad_in start [] i at piece place_is is bad = absurd cc
bad_in start (p ∷ ps) zero at piece place_is is bad = let same : p ≡ piece = cc in inl (omega arith, λ text. bad (subst (λ (xs : List ℕ). IsText (decode xs)) same text))
bad_in start (p ∷ ps) (suc i) at piece place_is is bad = inr (bad_in (start + length p + 1) ps i at piece (omega (arith, start_of_next i p ps)) is bad)

bad_out : (start : ℕ) (parts : List (List ℕ)) (at : ℕ) → ListFault start parts (BadUtf8 at) → (i : ℕ) × (piece : List ℕ) × (slice_get parts i ≡ Some piece) × (at ≡ start + start_of i parts) × ¬ (IsText (decode piece))
bad_out start [] at fault = absurd fault
bad_out start (p ∷ ps) at (inl fault) = (0, p, refl, omega arith, fault.1)
bad_out start (p ∷ ps) at (inr fault) =
    let later = bad_out (start + length p + 1) ps at fault in
    (suc later.0, later.1, later.2, omega (arith, start_of_next later.0 p ps, later.3), later.4)

ends_in : (start : ℕ) (parts : List (List ℕ)) (at : ℕ) → 0 < length parts → at + 1 ≡ start + length (join_with_byte tab parts) → last_ends false parts ≡ true → ListFault start parts (EndsInBackslash at)
ends_in start [] at some place_is ends = absurd (omega arith)
ends_in start (p ∷ []) at some place_is ends = inl (place_is, ends)
ends_in start (p ∷ q ∷ ps) at some place_is ends =
    inr (ends_in (start + length p + 1) (q ∷ ps) at (omega arith) (omega (arith, length-append p (tab ∷ join_with_byte tab (q ∷ ps)))) ends)

ends_out : (start : ℕ) (parts : List (List ℕ)) (at : ℕ) → Closed false parts → ListFault start parts (EndsInBackslash at) → (at + 1 ≡ start + length (join_with_byte tab parts)) × (last_ends false parts ≡ true)
ends_out start [] at closed fault = absurd fault
ends_out start (p ∷ []) at closed (inl fault) = fault
ends_out start (p ∷ []) at closed (inr fault) = absurd fault
ends_out start (p ∷ q ∷ ps) at closed (inl fault) = absurd (both_ways _ closed.0 fault.1)
ends_out start (p ∷ q ∷ ps) at closed (inr fault) =
    let later = ends_out (start + length p + 1) (q ∷ ps) at closed.1 fault in
    (omega (arith, later.0, length-append p (tab ∷ join_with_byte tab (q ∷ ps))), later.1)

fault_in : (line : List ℕ) (f : CopyFault) → IsFault line f → ListFault 0 (pieces line) f
fault_in line (RawReturn at) is = returns_in 0 (pieces line) at at (omega arith) (ap (λ (xs : List ℕ). slice_get xs at) (join_pieces line) ∙ is)
fault_in line (BadUtf8 at) is = bad_in 0 (pieces line) is.0 at is.1 (omega (arith, is.3)) is.2 is.4
fault_in line (EndsInBackslash at) is =
    ends_in 0 (pieces line) at (after_some false line) (omega (arith, ap length (join_pieces line), is.1)) (pieces_last line ∙ is.0)

fault_out : (line : List ℕ) (f : CopyFault) → ListFault 0 (pieces line) f → IsFault line f
fault_out line (RawReturn at) fault =
    let found = returns_out 0 (pieces line) at fault in
    let same : at ≡ found.0 = omega (arith, found.1) in
    ap (λ (k : ℕ). slice_get line k) same ∙ ap (λ (xs : List ℕ). slice_get xs found.0) (sym (join_pieces line)) ∙ found.2
fault_out line (BadUtf8 at) fault =
    let found = bad_out 0 (pieces line) at fault in
    (found.0, found.1, found.2, omega (arith, found.3), found.4)
fault_out line (EndsInBackslash at) fault =
    let found = ends_out 0 (pieces line) at (pieces_closed line) fault in
    (sym (pieces_last line) ∙ found.1, omega (arith, ap length (join_pieces line), found.0))

-- ---- the row of a line

reads : (line : List ℕ) (row : List Field) → row_of line ≡ Ok row → fields_of 0 (pieces line) ≡ Ok row
unfolding row_of
reads line row is = is

read_is : (line : List ℕ) → fields_of 0 (pieces line) ≡ row_of line
unfolding row_of
read_is line = refl

pub row_found : (row : List Field) (line : List ℕ) → All (λ b. b ≢ newline) line → row_of line ≡ Ok row → SpellsRow row line
row_found row line one_line is =
    let read = fields_read 0 (pieces line) row (read_is line ∙ is) in
    record { one_line = one_line; no_return = whole_line (λ b. b ≢ carriage_return) line (λ same. absurd (omega arith)) read.1; fields = read.0 }

pub row_only : (row : List Field) (line : List ℕ) → SpellsRow row line → row_of line ≡ Ok row
row_only row line spelled = sym (read_is line) ∙ fields_spelled 0 (pieces line) row spelled.fields (each_piece (λ b. b ≢ carriage_return) line spelled.no_return)

pub one_row : (row other : List Field) (line : List ℕ) → SpellsRow row line → SpellsRow other line → row ≡ other
one_row row other line first second = rows_ok row other (sym (row_only row line first) ∙ row_only other line second)

-- ---- the first fault

pub fault_found : (line : List ℕ) (f : CopyFault) → row_of line ≡ Err f → IsFirstFault line f
fault_found line f is =
    let first = fields_fault 0 (pieces line) f (read_is line ∙ is) in
    record { fault = fault_out line f first.0; first = λ g fault. first.1 g (fault_in line g fault) }

same_fault : (f g : CopyFault) → place f ≡ place g → rank f ≡ rank g → f ≡ g
same_fault (RawReturn a) (RawReturn b) is same = ap RawReturn is
same_fault (RawReturn a) (BadUtf8 b) is same = absurd (omega arith)
same_fault (RawReturn a) (EndsInBackslash b) is same = absurd (omega arith)
same_fault (BadUtf8 a) (RawReturn b) is same = absurd (omega arith)
same_fault (BadUtf8 a) (BadUtf8 b) is same = ap BadUtf8 is
same_fault (BadUtf8 a) (EndsInBackslash b) is same = absurd (omega arith)
same_fault (EndsInBackslash a) (RawReturn b) is same = absurd (omega arith)
same_fault (EndsInBackslash a) (BadUtf8 b) is same = absurd (omega arith)
same_fault (EndsInBackslash a) (EndsInBackslash b) is same = ap EndsInBackslash is

one_first : (f g : CopyFault) → ComesFirst f g → ComesFirst g f → f ≡ g
one_first f g (inl a) (inl b) = absurd (omega arith)
one_first f g (inl a) (inr b) = absurd (omega (arith, b.0))
one_first f g (inr a) (inl b) = absurd (omega (arith, a.0))
one_first f g (inr a) (inr b) = same_fault f g a.0 (omega (arith, a.1, b.1))

pub fault_only : (line : List ℕ) (f : CopyFault) → IsFirstFault line f → row_of line ≡ Err f
fault_only line f is = by (row_of line) refl
  where
    by : (read : Result (List Field) CopyFault) → row_of line ≡ read → read ≡ Err f
    by (Ok row) read = absurd ((fields_read 0 (pieces line) row (read_is line ∙ read)).2 f (fault_in line f is.fault))
    by (Err g) read =
        let other = fault_found line g read in
        ap (λ (h : CopyFault). Err h) (one_first g f (other.first f is.fault) (is.first g other.fault))

-- ---- the rows of a text

one_whole : (b : ℕ) → b ≢ newline → All (λ c. c ≢ newline) (b ∷ [])
one_whole b other zero d lt = other
one_whole b other (suc k) d lt = absurd (omega arith)

cons_whole : (b : ℕ) (line : List ℕ) → b ≢ newline → All (λ c. c ≢ newline) line → All (λ c. c ≢ newline) (b ∷ line)
cons_whole b line other each zero d lt = other
cons_whole b line other each (suc k) d lt = each k d (omega arith)

lines_whole : (text : List ℕ) → AllByRecursion (All (λ b. b ≢ newline)) (lines text)
unfolding lines
lines_whole [] = tt
lines_whole (b ∷ rest) = by (cases_Bool (eqb b newline)) (lines_whole rest)
  where
    longer : (found : List (List ℕ)) → b ≢ newline → AllByRecursion (All (λ c. c ≢ newline)) found → AllByRecursion (All (λ c. c ≢ newline)) (onto_first b found)
    longer [] other each = (one_whole b other, tt)
    longer (line ∷ more) other each = (cons_whole b line other each.0, each.1)

    by : (eqb b newline ≡ true) ⊎ (eqb b newline ≡ false) → AllByRecursion (All (λ c. c ≢ newline)) (lines rest)
        → AllByRecursion (All (λ c. c ≢ newline)) (cond (eqb b newline) ([] ∷ lines rest) (onto_first b (lines rest)))
    by (inl is) each = rw is (λ k d lt. absurd (omega arith), each)
    by (inr other) each = rw other (longer (lines rest) (eqb-false b newline other) each)

data_whole : (found : List (List ℕ)) → AllByRecursion (All (λ b. b ≢ newline)) found → AllByRecursion (All (λ b. b ≢ newline)) (before_end_mark found)
data_whole [] each = tt
data_whole (line ∷ more) each = by (bytes_eq line end_mark) (data_whole more each.1)
  where
    by : (ends : Bool) → AllByRecursion (All (λ b. b ≢ newline)) (before_end_mark more) → AllByRecursion (All (λ b. b ≢ newline)) (cond ends [] (line ∷ before_end_mark more))
    by true later = tt
    by false later = (each.0, later)

abbrev Rows : Type 0
Rows = Result (List (List Field)) (ℕ × CopyFault)

abbrev done_rows : List (List Field) → Rows
done_rows rows = Ok rows

same_rows : (x y : List (List Field)) → done_rows x ≡ done_rows y → x ≡ y
same_rows x y e = cc

rows_nil : (n : ℕ) → rows_from n [] ≡ Ok []
unfolding rows_from
rows_nil n = refl

rows_cons : (n : ℕ) (line : List ℕ) (more : List (List ℕ)) → rows_from n (line ∷ more) ≡ with_row n (row_of line) (rows_from (n + 1) more)
unfolding rows_from
rows_cons n line more = refl

with_row_ok : (n : ℕ) (first : Result (List Field) CopyFault) (later : Rows) (rows : List (List Field)) → with_row n first later ≡ Ok rows
    → (row : List Field) × (others : List (List Field)) × (first ≡ Ok row) × (later ≡ Ok others) × (row ∷ others ≡ rows)
with_row_ok n (Err f) later rows e = absurd cc
with_row_ok n (Ok row) (Err fault) rows e = absurd cc
with_row_ok n (Ok row) (Ok others) rows e = (row, others, refl, refl, same_rows (row ∷ others) rows e)

rows_read : (n : ℕ) (found : List (List ℕ)) (rows : List (List Field)) → AllByRecursion (All (λ b. b ≢ newline)) found → rows_from n found ≡ Ok rows → AllZip SpellsRow rows found
rows_read n [] rows each is = subst (λ (r : List (List Field)). AllZip SpellsRow r []) (same_rows [] rows (sym (rows_nil n) ∙ is)) tt
rows_read n (line ∷ more) rows each is =
    let parts = with_row_ok n (row_of line) (rows_from (n + 1) more) rows (sym (rows_cons n line more) ∙ is) in
    subst (λ (r : List (List Field)). AllZip SpellsRow r (line ∷ more)) parts.4 (row_found parts.0 line each.0 parts.2, rows_read (n + 1) more parts.1 each.1 parts.3)

rows_spelled : (n : ℕ) (found : List (List ℕ)) (rows : List (List Field)) → AllZip SpellsRow rows found → rows_from n found ≡ Ok rows
rows_spelled n [] [] spelled = rows_nil n
rows_spelled n [] (row ∷ rows) spelled = absurd spelled
rows_spelled n (line ∷ more) [] spelled = absurd spelled
rows_spelled n (line ∷ more) (row ∷ rows) spelled =
    let here = row_only row line spelled.0 in
    let later = rows_spelled (n + 1) more rows spelled.1 in
    rows_cons n line more ∙ rw (here, later) refl

pub text_found : (rows : List (List Field)) (text : List ℕ) → rows_of_text text ≡ Ok rows → SpellsRows rows text
text_found rows text is = rows_read 1 (data_lines text) rows (data_whole (lines text) (lines_whole text)) is

pub text_only : (rows : List (List Field)) (text : List ℕ) → SpellsRows rows text → rows_of_text text ≡ Ok rows
text_only rows text spelled = rows_spelled 1 (data_lines text) rows spelled

-- ---- what can be written

one_field : (field : Field) (piece : List ℕ) → SpellsField field piece → IsField field
one_field None piece is = tt
one_field (Some text) piece is = is.3

cons_fields : (field : Field) (row : List Field) → IsField field → All IsField row → All IsField (field ∷ row)
cons_fields field row here later zero d lt = here
cons_fields field row here later (suc k) d lt = later k d (omega arith)

zip_some : (row : List Field) (parts : List (List ℕ)) → AllZip SpellsField row parts → 0 < length parts → 0 < length row
zip_some [] [] zip some = absurd (omega arith)
zip_some [] (p ∷ ps) zip some = absurd zip
zip_some (field ∷ row) parts zip some = omega arith

zip_fields : (row : List Field) (parts : List (List ℕ)) → AllZip SpellsField row parts → All IsField row
zip_fields [] parts zip = λ k d lt. absurd (omega arith)
zip_fields (field ∷ row) [] zip = absurd zip
zip_fields (field ∷ row) (p ∷ ps) zip = cons_fields field row (one_field field p zip.0) (zip_fields row ps zip.1)

pub can_be_written : (row : List Field) (line : List ℕ) → SpellsRow row line → IsRow row
can_be_written row line spelled =
    let some : 0 < length row = zip_some row (pieces line) spelled.fields (after_some false line) in
    record { some = some; each = zip_fields row (pieces line) spelled.fields }

-- a written row is a line of its own, and not the end mark
lines_line : (line rest : List ℕ) → All (λ b. b ≢ newline) line → lines (line ++ newline ∷ rest) ≡ line ∷ lines rest
unfolding lines
lines_line [] rest one_line = refl
lines_line (b ∷ line) rest one_line =
    let other : eqb b newline ≡ false = ne_eqb b newline (one_line 0 0 (omega arith)) in
    rw other (ap (onto_first b) (lines_line line rest (λ k d lt. one_line (suc k) d (omega arith))))

end_mark_row : row_of end_mark ≡ Ok (Some (46 ∷ []) ∷ [])
unfolding row_of fields_of field_of pieces_after ends_escaping decode_behind escape is_utf8 chars encode
end_mark_row = refl

not_end_mark : (row : List Field) → IsRow row → bytes_eq (spell_row row) end_mark ≡ false
unfolding spell_row
not_end_mark row is = false_from_ne_true _ (λ same. differs ((bytes_eq-Decides (spell_row row) end_mark).0 same))
  where
    differs : spell_row row ≡ end_mark → ⊥
    differs same =
        let read : row_of end_mark ≡ Ok row = ap row_of (sym same) ∙ row_only row (spell_row row) (written_row row is) in
        let row_is : Some (46 ∷ []) ∷ [] ≡ row = rows_ok (Some (46 ∷ []) ∷ []) row (sym end_mark_row ∙ read) in
        let again : 46 ∷ [] ≡ end_mark = ap spell_row row_is ∙ same in
        absurd cc

pub rows_before : (rows more : List (List Field)) (text : List ℕ) → All IsRow rows → SpellsRows more text → SpellsRows (rows ++ more) (spell_rows rows ++ text)
rows_before [] more text each spelled = spelled
rows_before (row ∷ rows) more text each spelled =
    let is : IsRow row = each 0 row (omega arith) in
    let here = written_row row is in
    let rest : List ℕ = spell_rows rows ++ text in
    let joined : spell_rows (row ∷ rows) ++ text ≡ spell_row row ++ newline ∷ rest = simp append_assoc in
    let first : data_lines (spell_rows (row ∷ rows) ++ text) ≡ spell_row row ∷ data_lines rest = ap data_lines joined ∙ ap before_end_mark (lines_line (spell_row row) rest here.one_line) ∙ cond-false _ _ _ (not_end_mark row is) in
    let later = rows_before rows more text (λ k d lt. each (suc k) d (omega arith)) spelled in
    subst (AllZip SpellsRow (row ∷ rows ++ more)) (sym first) (here, later)
