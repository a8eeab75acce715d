-- What is out and what is to come, one line further.
use Rattle.std.proofs.Common.{◌≡◌, ℕ, ◌+◌, true, false, List, [], ◌∷◌, ◌++◌, Some, None, Result, Ok, Err, refl, sym, ap, ◌∙◌, arith, append_assoc}
use Rattle.std.specs.Str.{bytes_eq}
use Rattle.std.proofs.lemmas.List.{append-nil}
use Rattle.copy_text.specs.Marks.{newline, end_mark}
use Rattle.copy_text.specs.Rows.{Field}
use Rattle.copy_text.specs.Reading.{row_of}
use Rattle.copy_text.specs.declared.fault.CopyFault.{CopyFault}
use Rattle.data_rows.specs.declared.fault.DataFault.{DataFault}
use Rattle.data_rows.specs.Rows.{checked_row, read_lines}
use Rattle.dump_files.specs.Spelled.{Spelled, ending, row_line, in_front, spelled_from}
use Rattle.dump_files.specs.Readings.{coming, behind, nothing}
use Rattle.dump_files.proofs.LineLemmas.{NoNewline, read_front, read_stop, read_empty}

pub spelled_from-nil : (columns number : ℕ) → spelled_from columns number [] ≡ record { text = ending; rows = 0; fault = None }
unfolding spelled_from
spelled_from-nil columns number = refl

pub spelled_from-cons : (columns number : ℕ) (read : Result (List Field) CopyFault) (more : List (Result (List Field) CopyFault)) → spelled_from columns number (read ∷ more) ≡ in_front number (checked_row columns read) (spelled_from columns (number + 1) more)
unfolding spelled_from
spelled_from-cons columns number read more = refl

pub coming-is : (columns rows : ℕ) (text : List ℕ) → coming columns rows false text ≡ spelled_from columns (rows + 1) (read_lines text)
unfolding coming
coming-is columns rows text = refl

pub coming-over : (columns rows : ℕ) (text : List ℕ) → coming columns rows true text ≡ nothing
unfolding coming
coming-over columns rows text = refl

-- ---- a line that reads so, in front of more

module _ (columns rows : ℕ) (out text : List ℕ) (read : Result (List Field) CopyFault) (more : List (Result (List Field) CopyFault)) (is : read_lines text ≡ read ∷ more) where
  opened : coming columns rows false text ≡ in_front (rows + 1) (checked_row columns read) (spelled_from columns (rows + 1 + 1) more)
  opened = coming-is columns rows text ∙ ap (spelled_from columns (rows + 1)) is ∙ spelled_from-cons columns (rows + 1) read more

  put_in_front : (row : List Field) (later : Spelled) → behind out rows (in_front (rows + 1) (Ok row) later) ≡ behind (out ++ row_line row) (rows + 1) later
  put_in_front row later =
      let many : rows + (later.rows + 1) ≡ rows + 1 + later.rows = omega arith in
      rw (many, ← append_assoc out (row_line row) later.text) refl

  pub row_out : (row : List Field) → checked_row columns read ≡ Ok row → behind out rows (coming columns rows false text) ≡ behind (out ++ row_line row) (rows + 1) (spelled_from columns (rows + 1 + 1) more)
  row_out row good =
      ap (behind out rows) (opened ∙ ap (λ (c : Result (List Field) DataFault). in_front (rows + 1) c (spelled_from columns (rows + 1 + 1) more)) good) ∙ put_in_front row (spelled_from columns (rows + 1 + 1) more)

  pub fault_next : (fault : DataFault) → checked_row columns read ≡ Err fault → (coming columns rows false text).fault ≡ Some (record { row = rows + 1; fault = fault })
  fault_next fault bad =
      ap (λ (s : Spelled). s.fault) (opened ∙ ap (λ (c : Result (List Field) DataFault). in_front (rows + 1) c (spelled_from columns (rows + 1 + 1) more)) bad)

-- no line is left, and the ending is put out
pub ended : (columns rows : ℕ) (out text new : List ℕ) → read_lines text ≡ [] → (rest : List ℕ) → new ≡ out ++ ending → behind out rows (coming columns rows false text) ≡ behind new rows (coming columns rows true rest)
ended columns rows out text new is rest e =
    ap (behind out rows) (coming-is columns rows text ∙ ap (spelled_from columns (rows + 1)) is ∙ spelled_from-nil columns (rows + 1))
    ∙ rw (coming-over columns rows rest, append-nil new) (ap (λ (o : List ℕ). record { text = o; rows = rows + 0; fault = None }) (sym e))

-- ---- a whole line

module _ (columns rows : ℕ) (out line more : List ℕ) (none : NoNewline line) where
  pub line_out : (row : List Field) (new : List ℕ) → bytes_eq line end_mark ≡ false → checked_row columns (row_of line) ≡ Ok row → new ≡ out ++ row_line row → behind out rows (coming columns rows false (line ++ newline ∷ more)) ≡ behind new (rows + 1) (coming columns (rows + 1) false more)
  line_out row new isnt good is =
      row_out columns rows out (line ++ newline ∷ more) (row_of line) (read_lines more) (read_front line more none isnt) row good
      ∙ ap (behind (out ++ row_line row) (rows + 1)) (sym (coming-is columns (rows + 1) more))
      ∙ ap (λ (o : List ℕ). behind o (rows + 1) (coming columns (rows + 1) false more)) (sym is)

  pub line_fault : (fault : DataFault) → bytes_eq line end_mark ≡ false → checked_row columns (row_of line) ≡ Err fault → (coming columns rows false (line ++ newline ∷ more)).fault ≡ Some (record { row = rows + 1; fault = fault })
  line_fault fault isnt bad = fault_next columns rows out (line ++ newline ∷ more) (row_of line) (read_lines more) (read_front line more none isnt) fault bad

  pub line_stop : bytes_eq line end_mark ≡ true → (rest new : List ℕ) → new ≡ out ++ ending → behind out rows (coming columns rows false (line ++ newline ∷ more)) ≡ behind new rows (coming columns rows true rest)
  line_stop is rest new e = ended columns rows out (line ++ newline ∷ more) new (read_stop line more none is) rest e

-- ---- the last line

module _ (columns rows : ℕ) (out line : List ℕ) where
  pub last_stop : (new : List ℕ) → read_lines line ≡ [] → new ≡ out ++ ending → (rest : List ℕ) → behind out rows (coming columns rows false line) ≡ behind new rows (coming columns rows true rest)
  last_stop new none e rest = ended columns rows out line new none rest e

  module _ (read : read_lines line ≡ row_of line ∷ []) where
    pub last_out : (row : List Field) (between new : List ℕ) → checked_row columns (row_of line) ≡ Ok row → between ≡ out ++ row_line row → new ≡ between ++ ending → (rest : List ℕ)
        → behind out rows (coming columns rows false line) ≡ behind new (rows + 1) (coming columns (rows + 1) true rest)
    last_out row between new good b e rest =
        row_out columns rows out line (row_of line) [] read row good
        ∙ ap (λ (o : List ℕ). behind o (rows + 1) (spelled_from columns (rows + 1 + 1) [])) (sym b)
        ∙ ap (behind between (rows + 1)) (ap (spelled_from columns (rows + 1 + 1)) (sym no_more) ∙ sym (coming-is columns (rows + 1) []))
        ∙ ended columns (rows + 1) between [] new no_more rest e
      where
        no_more : read_lines [] ≡ []
        no_more = read_empty [] refl

    pub last_fault : (fault : DataFault) → checked_row columns (row_of line) ≡ Err fault → (coming columns rows false line).fault ≡ Some (record { row = rows + 1; fault = fault })
    last_fault fault bad = fault_next columns rows out line (row_of line) [] read fault bad

-- ---- a piece behind what is held

pub joined : (held piece line after more : List ℕ) → piece ≡ line ++ newline ∷ after → held ++ (piece ++ more) ≡ (held ++ line) ++ newline ∷ (after ++ more)
joined held piece line after more is =
    ap (λ (p : List ℕ). held ++ (p ++ more)) is ∙ ap (λ (l : List ℕ). held ++ l) (append_assoc line (newline ∷ after) more) ∙ sym (append_assoc held line (newline ∷ (after ++ more)))
