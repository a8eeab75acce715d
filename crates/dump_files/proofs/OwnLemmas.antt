-- A line of bytes that are their own spelling is the one spelling of its row.
use Rattle.std.proofs.Common.{◌≡◌, ℕ, ◌+◌, ◌<◌, ◌≤◌, Bool, true, false, not, ◌&&◌, ◌||◌, cond, eqb, ltb, leb, List, [], ◌∷◌, ◌++◌, length, map, Option, Some, None, Result, Ok, Err, refl, sym, ap, subst, ◌∙◌, arith, inl, inr, ◌⊎◌}
use Rattle.std.specs.List.{AllByRecursion, list_all, onto_first, join_with_byte, count_by}
use Rattle.std.specs.Option.{is_some, option_map_or}
use Rattle.std.specs.Str.{bytes_eq}
use Rattle.std.specs.Cmp.{first_so, second_so}
use Rattle.std.proofs.lemmas.Bool.{cases_Bool, true≢false, ne_eqb, ltb-true, leb-true, not-true, false_from_ne_true}
use Rattle.std.proofs.lemmas.List.{length-map}
use Rattle.std.proofs.lemmas.List.Sums.{sum_by-cons}
use Rattle.std.proofs.lemmas.Str.{IsUtf8-from_ascii}
use Rattle.std.proofs.lemmas.Str.Ascii.{IsAscii-from_all}
use Rattle.std.proofs.lemmas.Slice.Eq.{bytes_eq-Decides}
use Rattle.std.proofs.lemmas.List.Elements.{All-from_recursion}
use Rattle.memchr.specs.Find.{Nowhere, Passes, is_byte}
use Rattle.copy_text.specs.Marks.{tab, newline, backslash, carriage_return, null_mark}
use Rattle.copy_text.specs.Pieces.{pieces, pieces_after}
use Rattle.copy_text.specs.Reading.{field_of, fields_of, row_of}
use Rattle.copy_text.specs.Rows.{Field, letter_of, is_escaped, spell_byte, spell_text, spell_field, spell_row}
use Rattle.copy_text.proofs.EscapeLemmas.{decode_plain, ends_plain}
use Rattle.copy_text.proofs.FieldLemmas.{field_text, some_text, absent_at}
use Rattle.copy_text.proofs.JoinLemmas.{after_nil, after_tab, after_other, after_some, join_pieces}
use Rattle.copy_text.proofs.RowLemmas.{fields_cons, fields_nil}
use Rattle.data_rows.specs.declared.fault.DataFault.{DataFault}
use Rattle.data_rows.specs.declared.fault.DataFault.TheVariants.{Fields}
use Rattle.data_rows.specs.Rows.{checked_row}
use Rattle.dump_files.specs.Own.{is_own}
use Rattle.dump_files.specs.Spelled.{row_line}

-- ---- bytes

-- a byte of ASCII that is written as it stands, and opens no escape
record Plain (b : ℕ) : Type 0 where
  ascii : b < 128
  unescaped : is_escaped b ≡ false
  no_backslash : eqb b backslash ≡ false
  no_return : eqb b carriage_return ≡ false

printable : (b : ℕ) → 32 ≤ b → b < 127 → eqb b backslash ≡ false → Plain b
printable b low high other =
    let n8 : eqb b 8 ≡ false = ne_eqb b 8 (λ e. omega (arith, e)) in
    let n9 : eqb b 9 ≡ false = ne_eqb b 9 (λ e. omega (arith, e)) in
    let n10 : eqb b 10 ≡ false = ne_eqb b 10 (λ e. omega (arith, e)) in
    let n11 : eqb b 11 ≡ false = ne_eqb b 11 (λ e. omega (arith, e)) in
    let n12 : eqb b 12 ≡ false = ne_eqb b 12 (λ e. omega (arith, e)) in
    let n13 : eqb b 13 ≡ false = ne_eqb b 13 (λ e. omega (arith, e)) in
    record { ascii = omega arith; unescaped = rw (other, n8, n9, n10, n11, n12, n13) refl; no_backslash = other; no_return = n13 }

is_plain : (b : ℕ) → is_own b ≡ true → eqb b tab ≡ false → Plain b
is_plain b own other =
    let rest : (leb 32 b && (ltb b 127 && not (eqb b backslash))) ≡ true = ap (λ (t : Bool). t || (leb 32 b && (ltb b 127 && not (eqb b backslash)))) (sym other) ∙ own in
    let low = leb-true 32 b (first_so (leb 32 b) (ltb b 127 && not (eqb b backslash)) rest) in
    let more = second_so (leb 32 b) (ltb b 127 && not (eqb b backslash)) rest in
    printable b low (ltb-true b 127 (first_so (ltb b 127) (not (eqb b backslash)) more)) (not-true _ (second_so (ltb b 127) (not (eqb b backslash)) more))

spelled_byte : (b : ℕ) → is_escaped b ≡ false → spell_byte b ≡ b ∷ []
spelled_byte b none = by (letter_of b) refl none
  where
    by : (o : Option ℕ) → letter_of b ≡ o → is_some o ≡ false → spell_byte b ≡ b ∷ []
    by None is none = ap (λ (o : Option ℕ). option_map_or (λ letter. backslash ∷ letter ∷ []) o (b ∷ [])) is
    by (Some c) is none = absurd cc

-- ---- pieces

abbrev OwnPiece : List ℕ → Type 0
OwnPiece piece = AllByRecursion Plain piece

spelled_piece : (piece : List ℕ) → OwnPiece piece → spell_text piece ≡ piece
spelled_piece [] own = refl
spelled_piece (b ∷ piece) own = rw (spelled_byte b own.0.unescaped) (ap (λ (xs : List ℕ). b ∷ xs) (spelled_piece piece own.1))

-- what is so of each plain byte
each : (Q : ℕ → Type 0) → ((b : ℕ) → Plain b → Q b) → (piece : List ℕ) → OwnPiece piece → AllByRecursion Q piece
each Q so [] own = tt
each Q so (b ∷ piece) own = (so b own.0, each Q so piece own.1)

nowhere : (byte : ℕ) (piece : List ℕ) → AllByRecursion (λ b. eqb b byte ≡ false) piece → Nowhere (Passes (is_byte byte) piece) 0 (length piece)
nowhere byte piece none k low lt here = true≢false (sym here ∙ All-from_recursion (λ b. eqb b byte ≡ false) piece none k 0 lt)

no_null : (piece : List ℕ) → OwnPiece piece → bytes_eq piece null_mark ≡ false
no_null piece own = false_from_ne_true _ (λ same. has ((bytes_eq-Decides piece null_mark).0 same))
  where
    has : piece ≡ null_mark → ⊥
    has is = true≢false (subst OwnPiece is own).0.no_backslash

own_field : (start : ℕ) (piece : List ℕ) → OwnPiece piece → field_of start piece ≡ Ok (Some piece)
own_field start piece own =
    let no_backslash = nowhere backslash piece (each (λ b. eqb b backslash ≡ false) (λ b plain. plain.no_backslash) piece own) in
    let no_return = nowhere carriage_return piece (each (λ b. eqb b carriage_return ≡ false) (λ b plain. plain.no_return) piece own) in
    let ascii = IsUtf8-from_ascii piece (IsAscii-from_all piece (All-from_recursion (λ b. b < 128) piece (each (λ b. b < 128) (λ b plain. plain.ascii) piece own))) in
    let whole = decode_plain piece no_backslash in
    field_text start piece (absent_at piece None no_return refl) (some_text piece piece (sym whole) ascii) (sym (ends_plain piece no_backslash)) (no_null piece own)
    ∙ ap (λ (xs : List ℕ). Ok (Some xs)) whole

-- ---- lines

abbrev OwnPieces : List (List ℕ) → Type 0
OwnPieces parts = AllByRecursion OwnPiece parts

own_fields : (start : ℕ) (parts : List (List ℕ)) → OwnPieces parts → fields_of start parts ≡ Ok (map Some parts)
own_fields start [] own = fields_nil start
own_fields start (p ∷ ps) own = fields_cons start p ps ∙ rw (own_field start p own.0, own_fields (start + length p + 1) ps own.1) refl

spelled_pieces : (parts : List (List ℕ)) → OwnPieces parts → map spell_field (map Some parts) ≡ parts
spelled_pieces [] own = refl
spelled_pieces (p ∷ ps) own = rw (spelled_piece p own.0) (ap (λ (xs : List (List ℕ)). p ∷ xs) (spelled_pieces ps own.1))

onto_own : (b : ℕ) (parts : List (List ℕ)) → Plain b → 0 < length parts → OwnPieces parts → OwnPieces (onto_first b parts) × (length (onto_first b parts) ≡ length parts)
onto_own b [] plain some own = absurd (omega arith)
onto_own b (p ∷ ps) plain some own = (((plain, own.0), own.1), refl)

abbrev tabs : List ℕ → ℕ
tabs line = count_by (λ b. eqb b tab) line

-- its pieces are plain, and one more than its tabs
abbrev Cut : List ℕ → ℕ → List (List ℕ) → Type 0
Cut line count parts = OwnPieces parts × (length parts ≡ count + 1)

own_pieces : (line : List ℕ) → list_all is_own line ≡ true → Cut line (tabs line) (pieces line)
own_pieces [] own = subst (Cut [] 0) (sym (after_nil false)) ((tt, tt), refl)
own_pieces (b ∷ rest) own = by (cases_Bool (eqb b tab)) (own_pieces rest (second_so (is_own b) (list_all is_own rest) own))
  where
    by : (eqb b tab ≡ true) ⊎ (eqb b tab ≡ false) → Cut rest (tabs rest) (pieces rest) → Cut (b ∷ rest) (tabs (b ∷ rest)) (pieces (b ∷ rest))
    by (inl is) later =
        let one : tabs (b ∷ rest) ≡ 1 + tabs rest = sum_by-cons (λ x. cond (eqb x tab) 1 0) b rest ∙ ap (λ (t : Bool). cond t 1 0 + tabs rest) is in
        subst (Cut (b ∷ rest) (tabs (b ∷ rest))) (sym (after_tab b rest is)) ((tt, later.0), omega (arith, one, later.1))
    by (inr other) later =
        let same : tabs (b ∷ rest) ≡ 0 + tabs rest = sum_by-cons (λ x. cond (eqb x tab) 1 0) b rest ∙ ap (λ (t : Bool). cond t 1 0 + tabs rest) other in
        let plain = is_plain b (first_so (is_own b) (list_all is_own rest) own) other in
        let cut : pieces (b ∷ rest) ≡ onto_first b (pieces rest) = after_other b rest other ∙ ap (λ (t : Bool). onto_first b (pieces_after t rest)) plain.no_backslash in
        let more = onto_own b (pieces rest) plain (after_some false rest) later.0 in
        subst (Cut (b ∷ rest) (tabs (b ∷ rest))) (sym cut) (more.0, omega (arith, same, later.1, more.1))

-- the row of such a line
abbrev own_row : List ℕ → List Field
own_row line = map Some (pieces line)

pub own_row_of : (line : List ℕ) → list_all is_own line ≡ true → row_of line ≡ Ok (own_row line)
unfolding row_of
own_row_of line own = own_fields 0 (pieces line) (own_pieces line own).0

own_length : (line : List ℕ) → list_all is_own line ≡ true → length (own_row line) ≡ count_by (λ b. eqb b tab) line + 1
own_length line own = length-map (pieces line) Some ∙ (own_pieces line own).1

own_spelled : (line : List ℕ) → list_all is_own line ≡ true → spell_row (own_row line) ≡ line
unfolding spell_row
own_spelled line own = ap (join_with_byte tab) (spelled_pieces (pieces line) (own_pieces line own).0) ∙ join_pieces line

-- it has another number of fields
pub own_fault : (columns : ℕ) (line : List ℕ) (found : ℕ) → list_all is_own line ≡ true → found ≡ count_by (λ b. eqb b tab) line + 1 → eqb found columns ≡ false → checked_row columns (row_of line) ≡ Err (Fields found)
own_fault columns line found own is other =
    let count : length (own_row line) ≡ found = own_length line own ∙ sym is in
    ap (checked_row columns) (own_row_of line own)
    ∙ ap (λ (n : ℕ). cond (eqb n columns) (Ok (own_row line)) (Err (Fields n))) count
    ∙ ap (λ (b : Bool). cond {A = Result (List Field) DataFault} b (Ok (own_row line)) (Err (Fields found))) other

-- it has a field for each column, and is written as it stands
pub own_line : (columns : ℕ) (line : List ℕ) (found : ℕ) (out new : List ℕ) → list_all is_own line ≡ true → found ≡ count_by (λ b. eqb b tab) line + 1 → eqb found columns ≡ true → new ≡ out ++ (line ++ newline ∷ [])
    → (row : List Field) × (checked_row columns (row_of line) ≡ Ok row) × (new ≡ out ++ row_line row)
own_line columns line found out new own is same put =
    let count : length (own_row line) ≡ found = own_length line own ∙ sym is in (
      own_row line,
      ap (checked_row columns) (own_row_of line own)
          ∙ ap (λ (n : ℕ). cond (eqb n columns) (Ok (own_row line)) (Err (Fields n))) count
          ∙ ap (λ (b : Bool). cond {A = Result (List Field) DataFault} b (Ok (own_row line)) (Err (Fields found))) same,
      put ∙ ap (λ (xs : List ℕ). out ++ (xs ++ newline ∷ [])) (sym (own_spelled line own)),
    )
