-- The rows that COPY reads have a field for each column.
use Rattle.std.proofs.Common.{◌≡◌, ℕ, suc, ◌+◌, ◌==◌, Bool, true, false, if◌then◌else◌, List, [], ◌∷◌, length, map, Option, Some, None, Result, Ok, Err, refl, ap, sym, subst, ◌∙◌, arith}
use Rattle.std.specs.List.{list_all}
use Rattle.copy_text.specs.declared.fault.CopyFault.{CopyFault}
use Rattle.copy_text.specs.Lines.{data_lines}
use Rattle.copy_text.specs.Reading.{row_of}
use Rattle.cat_model.specs.declared.cause.Cause.{Cause}
use Rattle.cat_model.specs.declared.cause.Cause.TheVariants as cause
use Rattle.cat_model.specs.declared.value.Column.{Column}
use Rattle.cat_model.specs.Values.{Bytes, Row}
use Rattle.cat_model.specs.CopiedRows.{in_order, field_named, row_or, row_read, onto_rows, rows_read, copied_rows, fields_cause}
use Rattle.cat_sound.specs.Asked.{is_row}
use Rattle.cat_sound.proofs.LineFields.{line_has_field}

same_of : (m n : ℕ) → (m == n) ≡ true → m ≡ n
same_of m n e = grind arith

of_same : (n : ℕ) → (n == n) ≡ true
of_same n = grind arith

length_mapped : {A B : Type 0} (f : A → B) (xs : List A) → length (map f xs) ≡ length xs
length_mapped f [] = refl
length_mapped f (x ∷ xs) = ap (λ n. suc n) (length_mapped f xs)

-- fields in the order of the columns are as many
ordered_length : (columns : List Column) (names : List Bytes) (fields : Row) → length fields ≡ length columns → length (in_order columns names fields) ≡ length columns
ordered_length columns [] fields same = same
ordered_length columns (n ∷ ns) fields same = length_mapped (λ (c : Column). field_named (n ∷ ns) fields c.name) columns

some_length : (fields : Row) → ((fields ≡ []) → ⊥) → (length fields == 0) ≡ false
some_length [] some = absurd (some refl)
some_length (f ∷ fs) some = grind arith

ordered_row : (columns : List Column) (names : List Bytes) (fields : Row) → ((fields ≡ []) → ⊥) → (length fields == length columns) ≡ true → is_row columns (in_order columns names fields) ≡ true
ordered_row columns names fields some same =
    let fits : length fields ≡ length columns = same_of (length fields) (length columns) same in
    let as_many : length (in_order columns names fields) ≡ length columns = ordered_length columns names fields fits in
    let not_none : (length columns == 0) ≡ false = ap (λ n. n == 0) (sym fits) ∙ some_length fields some in
    rw (as_many, of_same (length columns), not_none) refl

module _ (columns : List Column) (names primary : List Bytes) where
  taken : (ordered row : Row) (because : Option Cause) → row_or ordered because ≡ Ok row → ordered ≡ row
  taken ordered row None e = cc
  taken ordered row (Some because) e = cc

  read_row : (n : ℕ) (line : Bytes) (r : Result Row CopyFault) → row_of line ≡ r → (row : Row) → row_read columns names primary n r ≡ Ok row → is_row columns row ≡ true
  read_row n line (Err fault) is row e = cc
  read_row n line (Ok fields) is row e = by (length fields == length columns) refl e
    where
      some : (fields ≡ []) → ⊥
      some empty = line_has_field line (is ∙ ap Ok empty)

      by : (same : Bool) → (length fields == length columns) ≡ same → (if same then row_or (in_order columns names fields) (fields_cause primary n 1 columns (in_order columns names fields)) else Err (cause.Fields n (length fields))) ≡ Ok row → is_row columns row ≡ true
      by true same at = subst (λ (x : Row). is_row columns x ≡ true) (taken (in_order columns names fields) row (fields_cause primary n 1 columns (in_order columns names fields)) at) (ordered_row columns names fields some same)
      by false same at = cc

  onto : (first : Result Row Cause) (later : Result (List Row) Cause) (rows : List Row) → onto_rows first later ≡ Ok rows → (r : Row) × (rs : List Row) × (first ≡ Ok r) × (later ≡ Ok rs) × (rows ≡ r ∷ rs)
  onto (Ok r) (Ok rs) rows e = (r, rs, refl, refl, cc)
  onto (Ok r) (Err because) rows e = cc
  onto (Err because) later rows e = cc

  read_rows : (n : ℕ) (lines : List Bytes) (rows : List Row) → rows_read columns names primary n lines ≡ Ok rows → list_all (is_row columns) rows ≡ true
  read_rows n [] rows e = let none : rows ≡ [] = cc in ap (list_all (is_row columns)) none
  read_rows n (line ∷ lines) rows e =
      let parts = onto (row_read columns names primary n (row_of line)) (rows_read columns names primary (n + 1) lines) rows e in
      let first : is_row columns parts.0 ≡ true = read_row n line (row_of line) refl parts.0 parts.2 in
      let later : list_all (is_row columns) parts.1 ≡ true = read_rows (n + 1) lines parts.1 parts.3 in
      ap (list_all (is_row columns)) parts.4 ∙ rw (first, later) refl

  pub copied_fit : (text : Bytes) (rows : List Row) → copied_rows columns names primary text ≡ Ok rows → list_all (is_row columns) rows ≡ true
  copied_fit text rows e = read_rows 1 (data_lines text) rows e
