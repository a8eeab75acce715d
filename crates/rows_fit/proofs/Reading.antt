-- One more row of a COPY text, or its first cause.
use Rattle.std.proofs.Common.{◌≡◌, ℕ, ◌+◌, List, [], ◌∷◌, ◌++◌, Result, Ok, Err, refl, ap, sym, ◌∙◌, append_assoc}
use Rattle.copy_text.specs.Reading.{row_of}
use Rattle.cat_model.specs.declared.cause.Cause.{Cause}
use Rattle.cat_model.specs.declared.value.Column.{Column}
use Rattle.cat_model.specs.Values.{Bytes, Row}
use Rattle.cat_model.specs.CopiedRows.{onto_rows, row_read, rows_read}

-- the rows, where there are more
abbrev pub before : List Row → Result (List Row) Cause → Result (List Row) Cause
before rows (Ok more) = Ok (rows ++ more)
before rows (Err cause) = Err cause

pub none_before : (all : Result (List Row) Cause) → all ≡ before [] all
none_before (Ok more) = refl
none_before (Err cause) = refl

pub onto_before : (rows : List Row) (row : Row) (more : Result (List Row) Cause) → before rows (onto_rows (Ok row) more) ≡ before (rows ++ row ∷ []) more
onto_before rows row (Ok more) = ap Ok (sym (append_assoc rows (row ∷ []) more))
onto_before rows row (Err cause) = refl

module _ (columns : List Column) (names primary : List Bytes) (rows : List Row) (number : ℕ) (line : Bytes) (lines : List Bytes) where
  pub one_row : (row : Row) → row_read columns names primary number (row_of line) ≡ Ok row
      → before rows (rows_read columns names primary number (line ∷ lines)) ≡ before (rows ++ row ∷ []) (rows_read columns names primary (number + 1) lines)
  one_row row e =
      ap (λ (r : Result Row Cause). before rows (onto_rows r (rows_read columns names primary (number + 1) lines))) e
      ∙ onto_before rows row (rows_read columns names primary (number + 1) lines)

  pub first_refused : (cause : Cause) → row_read columns names primary number (row_of line) ≡ Err cause → before rows (rows_read columns names primary number (line ∷ lines)) ≡ Err cause
  first_refused cause e = ap (λ (r : Result Row Cause). before rows (onto_rows r (rows_read columns names primary (number + 1) lines))) e
