-- Going over the lines of a text: the rows so far stand in front of those of the rest.
use Rattle.std.proofs.Common.{◌≡◌, ℕ, ◌+◌, ◌<◌, ◌≤◌, List, [], ◌∷◌, ◌++◌, length, map, Some, None, Result, Ok, Err, refl, sym, ap, ◌∙◌, append_assoc, arith}
use Rattle.std.specs.Result.{result_err}
use Rattle.std.proofs.lemmas.List.{append-nil, length-append}
use Rattle.copy_text.specs.Rows.{Field}
use Rattle.copy_text.specs.Reading.{row_of}
use Rattle.copy_text.specs.Lines.{data_lines}
use Rattle.copy_text.specs.declared.fault.CopyFault.{CopyFault}
use Rattle.data_rows.specs.declared.fault.DataFault.{DataFault}
use Rattle.data_rows.specs.declared.fault.RowsFault.{RowsFault}
use Rattle.data_rows.specs.Rows.{read_lines, checked_row, numbered, in_front, rows_from, rows_of}

-- what a text gives
abbrev pub Due : Type 0
Due = Result (List (List Field)) RowsFault

-- what a line reads as
abbrev pub Read : Type 0
Read = Result (List Field) CopyFault

pub rows_from-nil : (columns number : ℕ) → rows_from columns number [] ≡ Ok []
unfolding rows_from
rows_from-nil columns number = refl

pub rows_from-cons : (columns number : ℕ) (read : Read) (more : List Read) → rows_from columns number (read ∷ more) ≡ in_front (numbered number (checked_row columns read)) (rows_from columns (number + 1) more)
unfolding rows_from
rows_from-cons columns number read more = refl

pub rows_of-is : (columns : ℕ) (text : List ℕ) → rows_of columns text ≡ rows_from columns 1 (read_lines text)
unfolding rows_of
rows_of-is columns text = refl

-- ---- rows in front of what is due of the rest

abbrev with_front : List (List Field) → Due → Due
with_front rows (Ok more) = Ok (rows ++ more)
with_front rows (Err fault) = Err fault

with_front-nil : (due : Due) → with_front [] due ≡ due
with_front-nil (Ok rows) = refl
with_front-nil (Err fault) = refl

with_front-one : (rows : List (List Field)) (row : List Field) (due : Due) → with_front rows (in_front (Ok row) due) ≡ with_front (rows ++ row ∷ []) due
with_front-one rows row (Ok more) = ap Ok (sym (append_assoc rows (row ∷ []) more))
with_front-one rows row (Err fault) = refl

-- what is known behind so many rows
pub record Kept (columns : ℕ) (text rest : List ℕ) (count : ℕ) : Type 0 where
  pub room : count + length rest ≤ length text
  pub rows : List (List Field)
  pub many : length rows ≡ count
  pub so_far : rows_of columns text ≡ with_front rows (rows_from columns (count + 1) (read_lines rest))

pub kept_start : (columns : ℕ) (text : List ℕ) → Kept columns text text 0
kept_start columns text = record {
  room = omega arith;
  rows = [];
  many = refl;
  so_far = rows_of-is columns text ∙ sym (with_front-nil (rows_from columns 1 (read_lines text)));
}

module _ (columns : ℕ) (text rest : List ℕ) (count : ℕ) (kept : Kept columns text rest count) where
  pub kept_end : data_lines rest ≡ [] → (rows : List (List Field)) × (rows_of columns text ≡ Ok rows) × (count ≡ length rows)
  kept_end none = (
    kept.rows,
    kept.so_far
        ∙ ap (λ (ls : List (List ℕ)). with_front kept.rows (rows_from columns (count + 1) (map row_of ls))) none
        ∙ ap (with_front kept.rows) (rows_from-nil columns (count + 1))
        ∙ ap Ok (append-nil kept.rows),
    sym kept.many,
  )

  module _ (line behind : List ℕ) (split : data_lines rest ≡ line ∷ data_lines behind) where
    next : rows_of columns text ≡ with_front kept.rows (in_front (numbered (count + 1) (checked_row columns (row_of line))) (rows_from columns (count + 1 + 1) (read_lines behind)))
    next =
        kept.so_far
        ∙ ap (λ (ls : List (List ℕ)). with_front kept.rows (rows_from columns (count + 1) (map row_of ls))) split
        ∙ ap (with_front kept.rows) (rows_from-cons columns (count + 1) (row_of line) (read_lines behind))

    pub kept_fault : (fault : DataFault) → result_err (checked_row columns (row_of line)) ≡ Some fault → rows_of columns text ≡ Err (record { row = count + 1; fault = fault })
    kept_fault fault wrong = by (checked_row columns (row_of line)) refl
      where
        by : (checked : Result (List Field) DataFault) → checked_row columns (row_of line) ≡ checked → rows_of columns text ≡ Err (record { row = count + 1; fault = fault })
        by (Ok row) is = let opened = sym wrong ∙ ap (result_err {T = List Field}) is in absurd cc
        by (Err other) is =
            let opened = sym wrong ∙ ap (result_err {T = List Field}) is in
            let same : other ≡ fault = cc in
            next ∙ rw (is, same) refl

    pub kept_step : length behind < length rest → result_err (checked_row columns (row_of line)) ≡ None → Kept columns text behind (count + 1)
    kept_step shorter good = by (checked_row columns (row_of line)) refl
      where
        by : (checked : Result (List Field) DataFault) → checked_row columns (row_of line) ≡ checked → Kept columns text behind (count + 1)
        by (Ok row) is = record {
          room = omega (arith, kept.room);
          rows = kept.rows ++ row ∷ [];
          many = omega (arith, length-append kept.rows (row ∷ []), kept.many);
          so_far = next ∙ rw is (with_front-one kept.rows row (rows_from columns (count + 1 + 1) (read_lines behind)));
        }
        by (Err fault) is = let opened = sym good ∙ ap (result_err {T = List Field}) is in absurd cc
