-- Each row that a COPY gives has a field at least.
use Rattle.std.proofs.Common.{◌≡◌, ℕ, ◌+◌, ◌<◌, Bool, true, false, cond, eqb, List, [], ◌∷◌, map, length, Option, Some, None, Result, Ok, Err, IfOk, refl, sym, ap, subst, ◌∙◌, arith}
use Rattle.std.specs.List.{All}
use Rattle.std.proofs.lemmas.Bool.{eqb-true}
use Rattle.std.proofs.lemmas.List.{length-map}
use Rattle.std.proofs.lemmas.List.Elements.{All-cons}
use Rattle.copy_text.specs.Lines.{data_lines}
use Rattle.copy_text.specs.Reading.{row_of}
use Rattle.copy_text.specs.declared.fault.CopyFault.{CopyFault}
use Rattle.data_rows.proofs.LineLemmas.{NoNewlines, data_lines-no_newline}
use Rattle.cat_model.specs.declared.cause.Cause.{Cause}
use Rattle.cat_model.specs.declared.cause.Cause.TheVariants.{Fields}
use Rattle.cat_model.specs.declared.value.Column.{Column}
use Rattle.cat_model.specs.Values.{Bytes, Row}
use Rattle.cat_model.specs.CopiedRows.{in_order, row_or, row_read, onto_rows, rows_read, fields_cause, copied_rows, field_named}
use Rattle.cat_model.proofs.RowsSpelled.{full}

abbrev Filled : List Row → Type 0
Filled rows = All (λ row. 0 < length row) rows

none_filled : Filled []
none_filled k d lt = absurd (omega arith)

ordered_length : (columns : List Column) (names : List Bytes) (fields : Row) → length fields ≡ length columns → 0 < length fields → 0 < length (in_order columns names fields)
ordered_length columns [] fields same some = some
ordered_length columns (name ∷ names) fields same some = omega (arith, same, some, length-map columns (λ (c : Column). field_named (name ∷ names) fields c.name))

row_filled : (columns : List Column) (names primary : List Bytes) (number : ℕ) (read : Result Row CopyFault) → IfOk read (λ row. 0 < length row) → (row : Row) → row_read columns names primary number read ≡ Ok row → 0 < length row
row_filled columns names primary number (Err fault) some row is = absurd cc
row_filled columns names primary number (Ok fields) some row is = by (eqb (length fields) (length columns)) refl
  where
    of : Row → Option Cause → Type 0
    of ordered cause = 0 < length ordered → row_or ordered cause ≡ Ok row → 0 < length row

    by_cause : (ordered : Row) (cause : Option Cause) → of ordered cause
    by_cause ordered None some is = let same : ordered ≡ row = cc in subst (λ (r : Row). 0 < length r) same some
    by_cause ordered (Some cause) some is = absurd cc

    by : (same : Bool) → eqb (length fields) (length columns) ≡ same → 0 < length row
    by true e =
        let ordered = in_order columns names fields in
        let opened : row_or ordered (fields_cause primary number 1 columns ordered) ≡ Ok row = subst (λ (b : Bool). cond b (row_or ordered (fields_cause primary number 1 columns ordered)) (Err (Fields number (length fields))) ≡ Ok row) e is in
        by_cause ordered (fields_cause primary number 1 columns ordered) (ordered_length columns names fields (eqb-true _ _ e) some) opened
    by false e = let opened : ◌≡◌ {A = Result Row Cause} (Err (Fields number (length fields))) (Ok row) = subst (λ (b : Bool). cond b (row_or (in_order columns names fields) (fields_cause primary number 1 columns (in_order columns names fields))) (Err (Fields number (length fields))) ≡ Ok row) e is in absurd cc

lines_filled : (columns : List Column) (names primary : List Bytes) (number : ℕ) (lines : List Bytes) → NoNewlines lines → (rows : List Row) → rows_read columns names primary number lines ≡ Ok rows → Filled rows
lines_filled columns names primary number [] none rows is = let same : [] ≡ rows = cc in subst Filled same none_filled
lines_filled columns names primary number (line ∷ lines) none rows is =
    by (row_read columns names primary number (row_of line)) refl (rows_read columns names primary (number + 1) lines) refl (lines_filled columns names primary (number + 1) lines none.1)
  where
    by : (row : Result Row Cause) → row_read columns names primary number (row_of line) ≡ row → (later : Result (List Row) Cause) → rows_read columns names primary (number + 1) lines ≡ later
        → ((more : List Row) → rows_read columns names primary (number + 1) lines ≡ Ok more → Filled more) → Filled rows
    by (Err cause) e later f again = let opened : onto_rows (Err cause) later ≡ Ok rows = subst (λ (r : Result Row Cause). onto_rows r later ≡ Ok rows) e (subst (λ (l : Result (List Row) Cause). onto_rows (row_read columns names primary number (row_of line)) l ≡ Ok rows) f is) in absurd cc
    by (Ok row) e (Err cause) f again = let opened : onto_rows (Ok row) (Err cause) ≡ Ok rows = subst (λ (r : Result Row Cause). onto_rows r (Err cause) ≡ Ok rows) e (subst (λ (l : Result (List Row) Cause). onto_rows (row_read columns names primary number (row_of line)) l ≡ Ok rows) f is) in absurd cc
    by (Ok row) e (Ok more) f again =
        let opened : onto_rows (Ok row) (Ok more) ≡ Ok rows = subst (λ (r : Result Row Cause). onto_rows r (Ok more) ≡ Ok rows) e (subst (λ (l : Result (List Row) Cause). onto_rows (row_read columns names primary number (row_of line)) l ≡ Ok rows) f is) in
        let same : row ∷ more ≡ rows = cc in
        subst Filled same
        (All-cons (λ (r : Row). 0 < length r) row more
        (row_filled columns names primary number (row_of line) (full line none.0) row e)
        (again more f))

pub copied_filled : (columns : List Column) (names primary : List Bytes) (text : Bytes) (read : Result (List Row) Cause) → read ≡ copied_rows columns names primary text → IfOk read Filled
copied_filled columns names primary text (Err cause) is = tt
copied_filled columns names primary text (Ok rows) is = lines_filled columns names primary 1 (data_lines text) (data_lines-no_newline text) rows (sym is)
