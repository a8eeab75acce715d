-- Reading gives the rows that a text holds for a table, or the first of its rows that fails.
use Rattle.std.proofs.Common.{◌≡◌, ◌↔◌, ℕ, ◌+◌, Bool, true, false, cond, eqb, List, [], ◌∷◌, ◌++◌, length, map, Result, Ok, Err, ◌⊎◌, inl, inr, refl, sym, ap, subst, ◌∙◌, arith}
use Rattle.std.specs.List.{All, AllZip, AllByRecursion}
use Rattle.std.proofs.lemmas.Bool.{eq-eqb, eqb-true, false_from_ne_true}
use Rattle.std.proofs.lemmas.List.Elements.{All-from_recursion, recursion_from_All}
use Rattle.std.proofs.lemmas.List.{append-nil}
use Rattle.copy_text.specs.Rows.{Field, IsRow, SpellsRow, spell_rows}
use Rattle.copy_text.specs.Reading.{row_of, IsFirstFault}
use Rattle.copy_text.specs.Lines.{data_lines, lines, SpellsRows}
use Rattle.copy_text.specs.declared.fault.CopyFault.{CopyFault}
use Rattle.data_rows.specs.declared.fault.DataFault.{DataFault}
use Rattle.data_rows.specs.declared.fault.DataFault.TheVariants.{BadRow, Fields}
use Rattle.data_rows.specs.declared.fault.RowsFault.{RowsFault}
use Rattle.data_rows.specs.Rows.{read_lines, checked_row, numbered, in_front, rows_from, rows_of}
use Rattle.data_rows.specs.Holds.{HoldsRow, HoldsRows, IsFault, FailsFirst}
use Rattle.data_rows.proofs.LineLemmas.{NoNewline, NoNewlines, data_lines-no_newline}
use Rattle.data_rows.proofs.RowLemmas.{Due, Read, rows_from-nil, rows_from-cons, rows_of-is}

-- what the laws of COPY text say
pub record Copied : Type 0 where
  pub row : (row : List Field) (line : List ℕ) → NoNewline line → (row_of line ≡ Ok row) ↔ SpellsRow row line
  pub fault : (line : List ℕ) (fault : CopyFault) → (row_of line ≡ Err fault) ↔ IsFirstFault line fault

abbrev Checked : Type 0
Checked = Result (List Field) DataFault

-- ---- one in front of the others

in_front-ok : (number : ℕ) (first : Checked) (others : Due) (rows : List (List Field)) → in_front (numbered number first) others ≡ Ok rows
    → (row : List Field) × (more : List (List Field)) × (first ≡ Ok row) × (others ≡ Ok more) × (row ∷ more ≡ rows)
in_front-ok number (Err fault) others rows is = absurd cc
in_front-ok number (Ok row) (Err fault) rows is = absurd cc
in_front-ok number (Ok row) (Ok more) rows is = (row, more, refl, refl, cc)

in_front-err : (number : ℕ) (first : Checked) (others : Due) (fault : RowsFault) → in_front (numbered number first) others ≡ Err fault
    → ((first ≡ Err fault.fault) × (fault.row ≡ number)) ⊎ ((row : List Field) × (first ≡ Ok row) × (others ≡ Err fault))
in_front-err number (Err wrong) others fault is =
    let same : record { row = number; fault = wrong } ≡ fault = cc in
    inl (ap Err (ap (λ (f : RowsFault). f.fault) same), sym (ap (λ (f : RowsFault). f.row) same))
in_front-err number (Ok row) (Err other) fault is = inr (row, refl, is)
in_front-err number (Ok row) (Ok more) fault is = absurd cc

-- ---- a line

abbrev IsDue : ℕ → List ℕ → Checked → Type 0
IsDue columns line (Ok row) = HoldsRow columns row line
IsDue columns line (Err fault) = IsFault columns line fault

module _ (told : Copied) (columns : ℕ) (line : List ℕ) (none : NoNewline line) where
  due_of_row : (row : List Field) → SpellsRow row line → IsDue columns line (checked_row columns (Ok row))
  due_of_row row spells = by (eqb (length row) columns) refl
    where
      by : (same : Bool) → eqb (length row) columns ≡ same → IsDue columns line (cond same (Ok row) (Err (Fields (length row))))
      by true is = (spells, eqb-true _ _ is)
      by false is = (row, spells, refl, λ equal. absurd (differs (eq-eqb _ _ equal)))
        where
          differs : eqb (length row) columns ≡ true → ⊥
          differs equal = absurd cc

  line_is_due : IsDue columns line (checked_row columns (row_of line))
  line_is_due = by (row_of line) refl
    where
      by : (read : Read) → row_of line ≡ read → IsDue columns line (checked_row columns (row_of line))
      by (Ok row) is = rw is (due_of_row row ((told.row row line none).0 is))
      by (Err fault) is = rw is ((told.fault line fault).0 is)

  row_is_held : (row : List Field) → checked_row columns (row_of line) ≡ Ok row → HoldsRow columns row line
  row_is_held row is = subst (IsDue columns line) is line_is_due

  fault_is_due : (fault : DataFault) → checked_row columns (row_of line) ≡ Err fault → IsFault columns line fault
  fault_is_due fault is = subst (IsDue columns line) is line_is_due

  row_is_read : (row : List Field) → HoldsRow columns row line → checked_row columns (row_of line) ≡ Ok row
  row_is_read row holds = rw ((told.row row line none).1 holds.0, eq-eqb _ _ holds.1) refl

  fault_is_read : (fault : DataFault) → IsFault columns line fault → checked_row columns (row_of line) ≡ Err fault
  fault_is_read (BadRow fault) is = rw ((told.fault line fault).1 is) refl
  fault_is_read (Fields n) is =
      let differs : eqb (length is.0) columns ≡ false = false_from_ne_true _ (λ equal. is.3 (is.2 ∙ eqb-true _ _ equal)) in
      rw ((told.row is.0 line none).1 is.1, differs, is.2) refl

-- ---- lines

abbrev read_from : ℕ → ℕ → List (List ℕ) → Due
read_from columns number ls = rows_from columns number (map row_of ls)

module _ (told : Copied) (columns : ℕ) where
  lines_hold : (number : ℕ) (ls : List (List ℕ)) → NoNewlines ls → (rows : List (List Field)) → read_from columns number ls ≡ Ok rows → AllZip (HoldsRow columns) rows ls
  lines_hold number [] none rows is =
      let same : [] ≡ rows = cc (rows_from-nil columns number) in
      subst (λ (all : List (List Field)). AllZip (HoldsRow columns) all []) same tt
  lines_hold number (line ∷ more) none rows is =
      let parts = in_front-ok number (checked_row columns (row_of line)) (read_from columns (number + 1) more) rows (sym (rows_from-cons columns number (row_of line) (map row_of more)) ∙ is) in
      subst (λ (all : List (List Field)). AllZip (HoldsRow columns) all (line ∷ more)) parts.4
      (row_is_held told columns line none.0 parts.0 parts.2, lines_hold (number + 1) more none.1 parts.1 parts.3)

  lines_read : (number : ℕ) (ls : List (List ℕ)) → NoNewlines ls → (rows : List (List Field)) → AllZip (HoldsRow columns) rows ls → read_from columns number ls ≡ Ok rows
  lines_read number [] none [] holds = rows_from-nil columns number
  lines_read number [] none (row ∷ rows) holds = absurd holds
  lines_read number (line ∷ more) none [] holds = absurd holds
  lines_read number (line ∷ more) none (row ∷ rows) holds =
      rows_from-cons columns number (row_of line) (map row_of more)
      ∙ rw (row_is_read told columns line none.0 row holds.0, lines_read (number + 1) more none.1 rows holds.1) refl

  abbrev Held : List ℕ → Type 0
  Held line = (row : List Field) × HoldsRow columns row line

  -- the first line that fails, where the first of all has this number
  record FailsFrom (number : ℕ) (ls : List (List ℕ)) (first : RowsFault) : Type 0 where
    before : List (List ℕ)
    line : List ℕ
    after : List (List ℕ)
    split : ls ≡ before ++ line ∷ after
    at : first.row ≡ number + length before
    fault : IsFault columns line first.fault
    good : AllByRecursion Held before

  lines_fail : (number : ℕ) (ls : List (List ℕ)) → NoNewlines ls → (first : RowsFault) → read_from columns number ls ≡ Err first → FailsFrom number ls first
  lines_fail number [] none first is = absurd (cc (rows_from-nil columns number))
  lines_fail number (line ∷ more) none first is =
      by (in_front-err number (checked_row columns (row_of line)) (read_from columns (number + 1) more) first (sym (rows_from-cons columns number (row_of line) (map row_of more)) ∙ is))
      (lines_fail (number + 1) more none.1 first)
    where
      by : ((checked_row columns (row_of line) ≡ Err first.fault) × (first.row ≡ number)) ⊎ ((row : List Field) × (checked_row columns (row_of line) ≡ Ok row) × (read_from columns (number + 1) more ≡ Err first))
          → (read_from columns (number + 1) more ≡ Err first → FailsFrom (number + 1) more first) → FailsFrom number (line ∷ more) first
      by (inl here) again = record {
        before = [];
        line = line;
        after = more;
        split = refl;
        at = omega (arith, here.1);
        fault = fault_is_due told columns line none.0 first.fault here.0;
        good = tt;
      }
      by (inr later) again =
          let rest = again later.2 in
          record {
            before = line ∷ rest.before;
            line = rest.line;
            after = rest.after;
            split = ap (λ (all : List (List ℕ)). line ∷ all) rest.split;
            at = omega (arith, rest.at);
            fault = rest.fault;
            good = ((later.0, row_is_held told columns line none.0 later.0 later.1), rest.good);
          }

  lines_refuse : (before : List (List ℕ)) (number : ℕ) (line : List ℕ) (after : List (List ℕ)) (fault : DataFault) → NoNewlines (before ++ line ∷ after) → IsFault columns line fault → AllByRecursion Held before
      → read_from columns number (before ++ line ∷ after) ≡ Err (record { row = number + length before; fault = fault })
  lines_refuse [] number line after fault none is good =
      let same : number ≡ number + 0 = omega arith in
      rows_from-cons columns number (row_of line) (map row_of after)
      ∙ rw (fault_is_read told columns line none.0 fault is) (ap (λ (n : ℕ). Err (record { row = n; fault = fault })) same)
  lines_refuse (earlier ∷ before) number line after fault none is good =
      let same : number + 1 + length before ≡ number + length (earlier ∷ before) = omega arith in
      rows_from-cons columns number (row_of earlier) (map row_of (before ++ line ∷ after))
      ∙ rw (row_is_read told columns earlier none.0 good.0.0 good.0.1, lines_refuse before (number + 1) line after fault none.1 is good.1) (ap (λ (n : ℕ). Err (record { row = n; fault = fault })) same)

-- ---- texts

pub text_has_rows : Copied → (columns : ℕ) (text : List ℕ) (rows : List (List Field)) → (rows_of columns text ≡ Ok rows) ↔ HoldsRows columns rows text
text_has_rows told columns text rows = (
  λ is. lines_hold told columns 1 (data_lines text) (data_lines-no_newline text) rows (sym (rows_of-is columns text) ∙ is),
  λ holds. rows_of-is columns text ∙ lines_read told columns 1 (data_lines text) (data_lines-no_newline text) rows holds,
)

pub text_fails_first : Copied → (columns : ℕ) (text : List ℕ) (first : RowsFault) → (rows_of columns text ≡ Err first) ↔ FailsFirst columns text first
text_fails_first told columns text first = (found, told_first)
  where
    found : rows_of columns text ≡ Err first → FailsFirst columns text first
    found is =
        let from = lines_fail told columns 1 (data_lines text) (data_lines-no_newline text) first (sym (rows_of-is columns text) ∙ is) in
        record {
          before = from.before;
          line = from.line;
          after = from.after;
          split = from.split;
          number = omega (arith, from.at);
          fault = from.fault;
          good = All-from_recursion (Held told columns) from.before from.good;
        }

    told_first : FailsFirst columns text first → rows_of columns text ≡ Err first
    told_first is =
        let none : NoNewlines (is.before ++ is.line ∷ is.after) = subst NoNewlines is.split (data_lines-no_newline text) in
        let number : 1 + length is.before ≡ first.row = omega (arith, is.number) in
        rows_of-is columns text
        ∙ ap (read_from columns 1) is.split
        ∙ lines_refuse told columns is.before 1 is.line is.after first.fault none is.fault (recursion_from_All (Held told columns) is.before is.good)
        ∙ ap (λ (n : ℕ). Err (record { row = n; fault = first.fault })) number

pub no_row_of_no_columns : Copied → ((row : List Field) (line : List ℕ) → SpellsRow row line → IsRow row) → (text : List ℕ) (rows : List (List Field)) → rows_of 0 text ≡ Ok rows → rows ≡ []
no_row_of_no_columns told written text rows is = by rows (data_lines text) ((text_has_rows told 0 text rows).0 is)
  where
    by : (rows : List (List Field)) (ls : List (List ℕ)) → AllZip (HoldsRow 0) rows ls → rows ≡ []
    by [] ls holds = refl
    by (row ∷ rows) [] holds = absurd holds
    by (row ∷ rows) (line ∷ ls) holds = let some = (written row line holds.0.0).some in absurd (omega (arith, some, holds.0.1))

spelled_hold : (columns : ℕ) (rows : List (List Field)) (ls : List (List ℕ)) → AllZip SpellsRow rows ls → AllByRecursion (λ row. length row ≡ columns) rows → AllZip (HoldsRow columns) rows ls
spelled_hold columns [] [] spelled each = tt
spelled_hold columns [] (line ∷ ls) spelled each = absurd spelled
spelled_hold columns (row ∷ rows) [] spelled each = absurd spelled
spelled_hold columns (row ∷ rows) (line ∷ ls) spelled each = ((spelled.0, each.0), spelled_hold columns rows ls spelled.1 each.1)

no_rows_spelled : SpellsRows [] []
unfolding lines
no_rows_spelled = tt

pub written_rows : Copied → ((rows more : List (List Field)) (text : List ℕ) → All IsRow rows → SpellsRows more text → SpellsRows (rows ++ more) (spell_rows rows ++ text))
    → (columns : ℕ) (rows : List (List Field)) → All IsRow rows → All (λ row. length row ≡ columns) rows → rows_of columns (spell_rows rows) ≡ Ok rows
written_rows told read columns rows each many =
    let spelled = read rows [] [] each no_rows_spelled in
    let whole = subst (λ (all : List (List Field)). SpellsRows all (spell_rows rows)) (append-nil rows) (subst (SpellsRows (rows ++ [])) (append-nil (spell_rows rows)) spelled) in
    (text_has_rows told columns (spell_rows rows) rows).1 (spelled_hold columns rows (data_lines (spell_rows rows)) whole (recursion_from_All (λ row. length row ≡ columns) rows many))

-- ---- what lines read as

rows_read : (columns number : ℕ) (reads : List Read) (rows : List (List Field)) → rows_from columns number reads ≡ Ok rows → reads ≡ map Ok rows
rows_read columns number [] rows is =
    let same : [] ≡ rows = cc (rows_from-nil columns number) in
    ap (map Ok) same
rows_read columns number (read ∷ more) rows is =
    let parts = in_front-ok number (checked_row columns read) (rows_from columns (number + 1) more) rows (sym (rows_from-cons columns number read more) ∙ is) in
    let here = read_is read parts.0 parts.2 in
    let later = rows_read columns (number + 1) more parts.1 parts.3 in
    ap (λ (r : Read). r ∷ more) here ∙ ap (λ (rs : List Read). Ok parts.0 ∷ rs) later ∙ ap (map Ok) parts.4
  where
    read_is : (read : Read) (row : List Field) → checked_row columns read ≡ Ok row → read ≡ Ok row
    read_is (Err fault) row is = absurd cc
    read_is (Ok other) row is = ap Ok (by (eqb (length other) columns) is)
      where
        by : (same : Bool) → cond same (Ok other) (Err (Fields (length other))) ≡ Ok row → other ≡ row
        by true is = cc
        by false is = absurd cc

pub lines_of_rows : (columns : ℕ) (text : List ℕ) (rows : List (List Field)) → rows_of columns text ≡ Ok rows → read_lines text ≡ map Ok rows
lines_of_rows columns text rows is = rows_read columns 1 (read_lines text) rows (sym (rows_of-is columns text) ∙ is)

pub same_lines : (columns : ℕ) (text other : List ℕ) (rows other_rows : List (List Field)) → rows_of columns text ≡ Ok rows → rows_of columns other ≡ Ok other_rows → (rows ≡ other_rows) ↔ (read_lines text ≡ read_lines other)
same_lines columns text other rows other_rows is other_is = (
  λ same. lines_of_rows columns text rows is ∙ ap (map Ok) same ∙ sym (lines_of_rows columns other other_rows other_is),
  back,
)
  where
    back : read_lines text ≡ read_lines other → rows ≡ other_rows
    back same =
        let joined = sym is ∙ rows_of-is columns text ∙ ap (rows_from columns 1) same ∙ sym (rows_of-is columns other) ∙ other_is in
        cc

pub alike_lines : (columns : ℕ) (text other : List ℕ) → read_lines text ≡ read_lines other → rows_of columns text ≡ rows_of columns other
alike_lines columns text other same = rows_of-is columns text ∙ ap (rows_from columns 1) same ∙ sym (rows_of-is columns other)
