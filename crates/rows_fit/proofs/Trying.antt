-- One more row that was read before, or its first cause; and lines that read as these rows.
use Rattle.std.proofs.Common.{◌≡◌, ℕ, ◌+◌, List, [], ◌∷◌, ◌++◌, map, Result, Ok, Err, refl, ap, ◌∙◌}
use Rattle.copy_text.specs.Lines.{data_lines}
use Rattle.copy_text.specs.Reading.{row_of}
use Rattle.cat_model.specs.declared.cause.Cause.{Cause}
use Rattle.cat_model.specs.declared.value.Column.{Column}
use Rattle.cat_model.specs.Values.{Bytes, Row}
use Rattle.cat_model.specs.CopiedRows.{onto_rows, row_read, rows_read, copied_rows}
use Rattle.rows_fit.specs.Tried.{tried_from, tried}
use Rattle.rows_fit.proofs.Reading.{before, onto_before}

module _ (columns : List Column) (names primary : List Bytes) (rows : List Row) (number : ℕ) (fields : Row) (more : List Row) where
  pub one_fits : (row : Row) → row_read columns names primary number (Ok fields) ≡ Ok row
      → before rows (tried_from columns names primary number (fields ∷ more)) ≡ before (rows ++ row ∷ []) (tried_from columns names primary (number + 1) more)
  one_fits row e =
      ap (λ (r : Result Row Cause). before rows (onto_rows r (tried_from columns names primary (number + 1) more))) e
      ∙ onto_before rows row (tried_from columns names primary (number + 1) more)

  pub one_refused : (cause : Cause) → row_read columns names primary number (Ok fields) ≡ Err cause → before rows (tried_from columns names primary number (fields ∷ more)) ≡ Err cause
  one_refused cause e = ap (λ (r : Result Row Cause). before rows (onto_rows r (tried_from columns names primary (number + 1) more))) e

same_from : (columns : List Column) (names primary : List Bytes) (number : ℕ) (lines : List Bytes) (rows : List Row) → map row_of lines ≡ map Ok rows
    → tried_from columns names primary number rows ≡ rows_read columns names primary number lines
same_from columns names primary number [] [] e = refl
same_from columns names primary number [] (row ∷ rows) e = absurd cc
same_from columns names primary number (line ∷ lines) [] e = absurd cc
same_from columns names primary number (line ∷ lines) (row ∷ rows) e =
    let read : Ok row ≡ row_of line = cc in
    let rest : map row_of lines ≡ map Ok rows = cc in
    λ i. onto_rows (row_read columns names primary number (read i)) (same_from columns names primary (number + 1) lines rows rest i)

pub same_rows : (columns : List Column) (names primary : List Bytes) (text : Bytes) (rows : List Row) → map row_of (data_lines text) ≡ map Ok rows
    → tried columns names primary rows ≡ copied_rows columns names primary text
same_rows columns names primary text rows e = same_from columns names primary 1 (data_lines text) rows e
