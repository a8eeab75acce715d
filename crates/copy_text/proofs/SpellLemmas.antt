-- The written spelling of a row spells the row.
use Rattle.std.proofs.Common.{◌≡◌, ◌≢◌, ℕ, zero, suc, false, eqb, List, [], ◌∷◌, ◌++◌, map, Some, None, refl, sym, ap, subst, ◌∙◌, append_assoc, arith, inl, inr}
use Rattle.std.specs.List.{All, AllZip, onto_first, join_with_byte}
use Rattle.std.proofs.lemmas.Bool.{cases_eq, ne_eqb, cond-false}
use Rattle.std.proofs.lemmas.List.{append-nil}
use Rattle.std.proofs.lemmas.List.Elements.{All-append}
use Rattle.copy_text.specs.Marks.{tab, newline, carriage_return, backslash, null_mark}
use Rattle.copy_text.specs.Pieces.{pieces, pieces_after, ends_in_backslash, ends_escaping}
use Rattle.copy_text.specs.Escapes.{decode, decode_behind, escape}
use Rattle.copy_text.specs.Rows.{Field, IsField, IsRow, SpellsField, SpellsRow, letter_of, spell_byte, spell_text, spell_field, spell_row}
use Rattle.copy_text.proofs.EscapeLemmas.{decode_backslash, decode_nil}
use Rattle.copy_text.proofs.PieceLemmas.{onto_front, onto_front-append, onto_front-cons, pieces_escaped, pieces_tab, pieces_nil}

-- how the spelling of a byte reads, whatever follows it
record ReadsAs (b : ℕ) (bytes : List ℕ) : Type 0 where
  parts : (rest : List ℕ) → pieces (bytes ++ rest) ≡ onto_front bytes (pieces rest)
  value : (rest : List ℕ) → decode (bytes ++ rest) ≡ b ∷ decode rest
  ends : (rest : List ℕ) → ends_in_backslash (bytes ++ rest) ≡ ends_in_backslash rest
  one_line : All (λ c. c ≢ newline) bytes
  no_return : All (λ c. c ≢ carriage_return) bytes

one_byte : (P : ℕ → Type 0) (b : ℕ) → P b → All P (b ∷ [])
one_byte P b here zero d lt = here
one_byte P b here (suc k) d lt = absurd (omega arith)

two_bytes : (P : ℕ → Type 0) (b c : ℕ) → P b → P c → All P (b ∷ c ∷ [])
two_bytes P b c first second zero d lt = first
two_bytes P b c first second (suc zero) d lt = second
two_bytes P b c first second (suc (suc k)) d lt = absurd (omega arith)

ends_escaped : (c : ℕ) (rest : List ℕ) → ends_in_backslash (backslash ∷ c ∷ rest) ≡ ends_in_backslash rest
unfolding ends_escaping
ends_escaped c rest = refl

-- a letter behind a backslash
reads_letter : (b letter : ℕ) → ((rest : List ℕ) → escape (letter ∷ rest) ≡ record { stands_for = b ∷ []; len = 1 }) → letter ≢ newline → letter ≢ carriage_return → ReadsAs b (backslash ∷ letter ∷ [])
reads_letter b letter read no_newline no_return = record {
  parts = pieces_escaped letter;
  value = λ rest. decode_backslash (letter ∷ rest) ∙ rw read refl;
  ends = ends_escaped letter;
  one_line = two_bytes (λ c. c ≢ newline) backslash letter (λ is. absurd (omega arith)) no_newline;
  no_return = two_bytes (λ c. c ≢ carriage_return) backslash letter (λ is. absurd (omega arith)) no_return;
}

-- a byte that stands for itself
pieces_plain : (b : ℕ) (rest : List ℕ) → b ≢ tab → b ≢ backslash → pieces (b ∷ rest) ≡ onto_first b (pieces rest)
unfolding pieces_after
pieces_plain b rest no_tab no_backslash =
    let first : eqb b tab ≡ false = ne_eqb b tab no_tab in
    let second : eqb b backslash ≡ false = ne_eqb b backslash no_backslash in
    rw (first, second) refl

decode_plain : (b : ℕ) (rest : List ℕ) → b ≢ backslash → decode (b ∷ rest) ≡ b ∷ decode rest
unfolding decode_behind
decode_plain b rest no_backslash = cond-false _ _ _ (ne_eqb b backslash no_backslash)

ends_plain : (b : ℕ) (rest : List ℕ) → b ≢ backslash → ends_in_backslash (b ∷ rest) ≡ ends_in_backslash rest
unfolding ends_escaping
ends_plain b rest no_backslash = rw (ne_eqb b backslash no_backslash) refl

reads_plain : (b : ℕ) → b ≢ backslash → b ≢ tab → b ≢ newline → b ≢ carriage_return → ReadsAs b (b ∷ [])
reads_plain b no_backslash no_tab no_newline no_return = record {
  parts = λ rest. pieces_plain b rest no_tab no_backslash;
  value = λ rest. decode_plain b rest no_backslash;
  ends = λ rest. ends_plain b rest no_backslash;
  one_line = one_byte (λ c. c ≢ newline) b no_newline;
  no_return = one_byte (λ c. c ≢ carriage_return) b no_return;
}

-- the bytes with a letter
module _ where
  at_backslash : ReadsAs backslash (spell_byte backslash)
  unfolding escape
  at_backslash = reads_letter backslash backslash (λ rest. refl) (λ is. absurd (omega arith)) (λ is. absurd (omega arith))

  at_8 : ReadsAs 8 (spell_byte 8)
  unfolding escape
  at_8 = reads_letter 8 98 (λ rest. refl) (λ is. absurd (omega arith)) (λ is. absurd (omega arith))

  at_9 : ReadsAs 9 (spell_byte 9)
  unfolding escape
  at_9 = reads_letter 9 116 (λ rest. refl) (λ is. absurd (omega arith)) (λ is. absurd (omega arith))

  at_10 : ReadsAs 10 (spell_byte 10)
  unfolding escape
  at_10 = reads_letter 10 110 (λ rest. refl) (λ is. absurd (omega arith)) (λ is. absurd (omega arith))

  at_11 : ReadsAs 11 (spell_byte 11)
  unfolding escape
  at_11 = reads_letter 11 118 (λ rest. refl) (λ is. absurd (omega arith)) (λ is. absurd (omega arith))

  at_12 : ReadsAs 12 (spell_byte 12)
  unfolding escape
  at_12 = reads_letter 12 102 (λ rest. refl) (λ is. absurd (omega arith)) (λ is. absurd (omega arith))

  at_13 : ReadsAs 13 (spell_byte 13)
  unfolding escape
  at_13 = reads_letter 13 114 (λ rest. refl) (λ is. absurd (omega arith)) (λ is. absurd (omega arith))

at_byte : (b n : ℕ) → b ≡ n → ReadsAs n (spell_byte n) → ReadsAs b (spell_byte b)
at_byte b n is reads = subst (λ (c : ℕ). ReadsAs c (spell_byte c)) (sym is) reads

no_letter : (b : ℕ) → b ≢ backslash → b ≢ 8 → b ≢ 9 → b ≢ 10 → b ≢ 11 → b ≢ 12 → b ≢ 13 → letter_of b ≡ None
no_letter b n92 n8 n9 n10 n11 n12 n13 =
    cond-false _ _ _ (ne_eqb b backslash n92) ∙ cond-false _ _ _ (ne_eqb b 8 n8) ∙ cond-false _ _ _ (ne_eqb b 9 n9) ∙ cond-false _ _ _ (ne_eqb b 10 n10)
    ∙ cond-false _ _ _ (ne_eqb b 11 n11) ∙ cond-false _ _ _ (ne_eqb b 12 n12) ∙ cond-false _ _ _ (ne_eqb b 13 n13)

at_other : (b : ℕ) → b ≢ backslash → b ≢ 8 → b ≢ 9 → b ≢ 10 → b ≢ 11 → b ≢ 12 → b ≢ 13 → ReadsAs b (spell_byte b)
at_other b n92 n8 n9 n10 n11 n12 n13 =
    let plain : spell_byte b ≡ b ∷ [] = rw (no_letter b n92 n8 n9 n10 n11 n12 n13) refl in
    subst (ReadsAs b) (sym plain) (reads_plain b n92 n9 n10 n13)

reads_byte : (b : ℕ) → ReadsAs b (spell_byte b)
reads_byte b = elim (cases_eq b backslash) [
  | inl is ↦ at_byte b backslash is at_backslash
  | inr n92 ↦ elim (cases_eq b 8) [
    | inl is ↦ at_byte b 8 is at_8
    | inr n8 ↦ elim (cases_eq b 9) [
      | inl is ↦ at_byte b 9 is at_9
      | inr n9 ↦ elim (cases_eq b 10) [
        | inl is ↦ at_byte b 10 is at_10
        | inr n10 ↦ elim (cases_eq b 11) [
          | inl is ↦ at_byte b 11 is at_11
          | inr n11 ↦ elim (cases_eq b 12) [
            | inl is ↦ at_byte b 12 is at_12
            | inr n12 ↦ elim (cases_eq b 13) [ inl is ↦ at_byte b 13 is at_13 | inr n13 ↦ at_other b n92 n8 n9 n10 n11 n12 n13 ]
          ]
        ]
      ]
    ]
  ]
]

-- ---- a whole text

text_parts : (text rest : List ℕ) → pieces (spell_text text ++ rest) ≡ onto_front (spell_text text) (pieces rest)
text_parts [] rest = refl
text_parts (b ∷ text) rest =
    ap pieces (append_assoc (spell_byte b) (spell_text text) rest) ∙ (reads_byte b).parts (spell_text text ++ rest) ∙ ap (onto_front (spell_byte b)) (text_parts text rest)
    ∙ sym (onto_front-append (spell_byte b) (spell_text text) (pieces rest))

text_value : (text : List ℕ) → decode (spell_text text) ≡ text
text_value [] = decode_nil
text_value (b ∷ text) = (reads_byte b).value (spell_text text) ∙ ap (λ (xs : List ℕ). b ∷ xs) (text_value text)

nothing_ends : ends_in_backslash [] ≡ false
unfolding ends_escaping
nothing_ends = refl

text_ends : (text : List ℕ) → ends_in_backslash (spell_text text) ≡ false
text_ends [] = nothing_ends
text_ends (b ∷ text) = (reads_byte b).ends (spell_text text) ∙ text_ends text

text_one_line : (text : List ℕ) → All (λ c. c ≢ newline) (spell_text text)
text_one_line [] = λ k d lt. absurd (omega arith)
text_one_line (b ∷ text) = All-append (λ c. c ≢ newline) (spell_byte b) (spell_text text) (reads_byte b).one_line (text_one_line text)

text_no_return : (text : List ℕ) → All (λ c. c ≢ carriage_return) (spell_text text)
text_no_return [] = λ k d lt. absurd (omega arith)
text_no_return (b ∷ text) = All-append (λ c. c ≢ carriage_return) (spell_byte b) (spell_text text) (reads_byte b).no_return (text_no_return text)

null_value : decode null_mark ≡ 78 ∷ []
unfolding decode_behind escape
null_value = refl

-- a text is never written as null
not_null : (text : List ℕ) → spell_text text ≢ null_mark
not_null text is =
    let value : text ≡ 78 ∷ [] = sym (text_value text) ∙ ap decode is ∙ null_value in
    let same : 78 ∷ [] ≡ null_mark = ap spell_text (sym value) ∙ is in
    absurd cc

-- ---- fields and rows

field_spelled : (field : Field) → IsField field → SpellsField field (spell_field field)
field_spelled None is = refl
field_spelled (Some text) is = (not_null text, text_ends text, text_value text, is)

field_parts : (field : Field) (rest : List ℕ) → pieces (spell_field field ++ rest) ≡ onto_front (spell_field field) (pieces rest)
field_parts None rest = pieces_escaped 78 rest
field_parts (Some text) rest = text_parts text rest

field_one_line : (field : Field) → All (λ c. c ≢ newline) (spell_field field)
field_one_line None = two_bytes (λ c. c ≢ newline) backslash 78 (λ is. absurd (omega arith)) (λ is. absurd (omega arith))
field_one_line (Some text) = text_one_line text

field_no_return : (field : Field) → All (λ c. c ≢ carriage_return) (spell_field field)
field_no_return None = two_bytes (λ c. c ≢ carriage_return) backslash 78 (λ is. absurd (omega arith)) (λ is. absurd (omega arith))
field_no_return (Some text) = text_no_return text

row_parts : (field : Field) (row : List Field) → pieces (join_with_byte tab (map spell_field (field ∷ row))) ≡ map spell_field (field ∷ row)
row_parts field [] =
    let bytes : List ℕ = spell_field field in
    ap pieces (sym (append-nil bytes)) ∙ field_parts field [] ∙ ap (onto_front bytes) pieces_nil ∙ onto_front-cons bytes [] [] ∙ ap (λ (xs : List ℕ). xs ∷ []) (append-nil bytes)
row_parts field (next ∷ row) =
    let bytes : List ℕ = spell_field field in
    let rest : List ℕ = join_with_byte tab (map spell_field (next ∷ row)) in
    field_parts field (tab ∷ rest) ∙ ap (onto_front bytes) (pieces_tab rest) ∙ onto_front-cons bytes [] (pieces rest) ∙ ap (λ (xs : List ℕ). xs ∷ pieces rest) (append-nil bytes) ∙ ap (λ (ps : List (List ℕ)). bytes ∷ ps) (row_parts next row)

row_all : (P : ℕ → Type 0) → P tab → ((field : Field) → All P (spell_field field)) → (field : Field) (row : List Field) → All P (join_with_byte tab (map spell_field (field ∷ row)))
row_all P at_tab each field [] = each field
row_all P at_tab each field (next ∷ row) =
    let rest : List ℕ = join_with_byte tab (map spell_field (next ∷ row)) in
    All-append P (spell_field field) (tab ∷ rest) (each field) (All-append P (tab ∷ []) rest (one_byte P tab at_tab) (row_all P at_tab each next row))

fields_spelled : (row : List Field) → All IsField row → AllZip SpellsField row (map spell_field row)
fields_spelled [] all = tt
fields_spelled (field ∷ row) all = (field_spelled field (all 0 field (omega arith)), fields_spelled row (λ k d lt. all (suc k) d (omega arith)))

pub written_row : (row : List Field) → IsRow row → SpellsRow row (spell_row row)
unfolding spell_row
written_row [] is = absurd (omega (arith, is.some))
written_row (field ∷ row) is = record {
  one_line = row_all (λ c. c ≢ newline) (λ is. absurd (omega arith)) field_one_line field row;
  no_return = row_all (λ c. c ≢ carriage_return) (λ is. absurd (omega arith)) field_no_return field row;
  fields = subst (AllZip SpellsField (field ∷ row)) (sym (row_parts field row)) (fields_spelled (field ∷ row) is.each);
}
