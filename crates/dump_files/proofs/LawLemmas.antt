-- What is put out of a text, by the rows that it has.
use Rattle.std.proofs.Common.{◌≡◌, ℕ, ◌+◌, List, [], ◌∷◌, ◌++◌, length, Some, None, Result, Ok, Err, refl, sym, ap, ◌∙◌, append_assoc, arith}
use Rattle.copy_text.specs.Rows.{Field, spell_rows}
use Rattle.copy_text.specs.declared.fault.CopyFault.{CopyFault}
use Rattle.data_rows.specs.declared.fault.DataFault.{DataFault}
use Rattle.data_rows.specs.declared.fault.RowsFault.{RowsFault}
use Rattle.data_rows.specs.Rows.{checked_row, numbered, rows_from}
use Rattle.data_rows.specs.Rows as texts
use Rattle.dump_files.specs.Spelled.{Spelled, ending, row_line, in_front, spelled_from}
use Rattle.dump_files.proofs.StepLemmas.{spelled_from-nil, spelled_from-cons}

abbrev Reads : Type 0
Reads = List (Result (List Field) CopyFault)

abbrev Rows : Type 0
Rows = List (List Field)

abbrev whole : Rows → Spelled
whole rows = record { text = spell_rows rows ++ ending; rows = length rows; fault = None }

rows_from-nil : (columns number : ℕ) → rows_from columns number [] ≡ Ok []
unfolding rows_from
rows_from-nil columns number = refl

rows_from-cons : (columns number : ℕ) (read : Result (List Field) CopyFault) (more : Reads) → rows_from columns number (read ∷ more) ≡ texts.in_front (numbered number (checked_row columns read)) (rows_from columns (number + 1) more)
unfolding rows_from
rows_from-cons columns number read more = refl

one_more : (number : ℕ) (row : List Field) (rows : Rows) → in_front number (Ok row) (whole rows) ≡ whole (row ∷ rows)
one_more number row rows =
    let many : length rows + 1 ≡ length (row ∷ rows) = omega arith in
    rw (many, append_assoc (row_line row) (spell_rows rows) ending) refl

pub spelled_whole : (columns number : ℕ) (reads : Reads) (rows : Rows) → rows_from columns number reads ≡ Ok rows → spelled_from columns number reads ≡ whole rows
spelled_whole columns number [] rows is =
    let same : [] ≡ rows = cc (rows_from-nil columns number) in
    spelled_from-nil columns number ∙ ap whole same
spelled_whole columns number (read ∷ more) rows is =
    by (checked_row columns read) refl (rows_from columns (number + 1) more) refl (sym (rows_from-cons columns number read more) ∙ is) (spelled_whole columns (number + 1) more)
  where
    by : (checked : Result (List Field) DataFault) → checked_row columns read ≡ checked → (later : Result Rows RowsFault) → rows_from columns (number + 1) more ≡ later → texts.in_front (numbered number checked) later ≡ Ok rows
        → ((others : Rows) → rows_from columns (number + 1) more ≡ Ok others → spelled_from columns (number + 1) more ≡ whole others)
        → spelled_from columns number (read ∷ more) ≡ whole rows
    by (Err fault) c later l e again = absurd cc
    by (Ok row) c (Err first) l e again = absurd cc
    by (Ok row) c (Ok others) l e again =
        let same : row ∷ others ≡ rows = cc in
        spelled_from-cons columns number read more
        ∙ ap (λ (r : Result (List Field) DataFault). in_front number r (spelled_from columns (number + 1) more)) c
        ∙ ap (in_front number (Ok row)) (again others l)
        ∙ one_more number row others
        ∙ ap whole same

pub spelled_fault : (columns number : ℕ) (reads : Reads) (first : RowsFault) → rows_from columns number reads ≡ Err first → (spelled_from columns number reads).fault ≡ Some first
spelled_fault columns number [] first is = absurd (cc (rows_from-nil columns number))
spelled_fault columns number (read ∷ more) first is =
    by (checked_row columns read) refl (rows_from columns (number + 1) more) refl (sym (rows_from-cons columns number read more) ∙ is) (spelled_fault columns (number + 1) more first)
  where
    by : (checked : Result (List Field) DataFault) → checked_row columns read ≡ checked → (later : Result Rows RowsFault) → rows_from columns (number + 1) more ≡ later → texts.in_front (numbered number checked) later ≡ Err first
        → (rows_from columns (number + 1) more ≡ Err first → (spelled_from columns (number + 1) more).fault ≡ Some first)
        → (spelled_from columns number (read ∷ more)).fault ≡ Some first
    by (Err fault) c later l e again =
        let same : record { row = number; fault = fault } ≡ first = cc in
        ap (λ (s : Spelled). s.fault) (spelled_from-cons columns number read more ∙ ap (λ (r : Result (List Field) DataFault). in_front number r (spelled_from columns (number + 1) more)) c) ∙ ap Some same
    by (Ok row) c (Err other) l e again =
        ap (λ (s : Spelled). s.fault) (spelled_from-cons columns number read more ∙ ap (λ (r : Result (List Field) DataFault). in_front number r (spelled_from columns (number + 1) more)) c) ∙ again (l ∙ e)
    by (Ok row) c (Ok others) l e again = absurd cc
