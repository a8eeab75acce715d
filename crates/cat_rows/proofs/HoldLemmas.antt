-- Reading gives the row that a line holds or its first fault, and the rows that a text holds or its first fault.
use Rattle.std.proofs.Common.{◌≡◌, ℕ, ◌+◌, Bool, true, false, cond, eqb, List, [], ◌∷◌, ◌++◌, length, Option, Some, None, Result, Ok, Err, ◌↔◌, refl, sym, ap, subst, ◌∙◌, arith}
use Rattle.std.specs.Prelude.{IsSome}
use Rattle.std.specs.List.{AllZip, AllByRecursion, zip}
use Rattle.std.specs.Str.{bytes_eq}
use Rattle.std.proofs.lemmas.Bool.{eq-eqb, eqb-true, false_from_ne_true}
use Rattle.copy_text.specs.Marks.{end_mark}
use Rattle.copy_text.specs.Rows.{Field, SpellsRow}
use Rattle.copy_text.specs.Reading.{row_of, IsFirstFault}
use Rattle.copy_text.specs.Lines.{lines, before_end_mark, data_lines}
use Rattle.copy_text.specs.declared.fault.CopyFault.{CopyFault}
use Rattle.cat_rows.specs.declared.table.SysTable.{SysTable}
use Rattle.cat_rows.specs.declared.kind.ColKind.{ColKind}
use Rattle.cat_rows.specs.declared.cell.Cell.{Cell}
use Rattle.cat_rows.specs.declared.fault.RowFault.{RowFault}
use Rattle.cat_rows.specs.declared.fault.RowFault.TheVariants.{Copy, Columns, BadCell}
use Rattle.cat_rows.specs.declared.fault.TableFault.{TableFault}
use Rattle.cat_rows.specs.Kinds.{columns}
use Rattle.cat_rows.specs.Cells.{cell_of}
use Rattle.cat_rows.specs.Reading.{◌>>=◌, Place, cell_at, cells_at, row_start, cells_of, table_from, table_of}
use Rattle.cat_rows.specs.Holds.{Column, SpellsCell, HoldsRow, HoldsRows, IsFirstBad, IsFirstFaultOf, IsRowFault}
use Rattle.cat_rows.proofs.LineLemmas.{NoNewline, NoNewlines, lines-no_newline}

-- what the laws of COPY text say
pub record Copied : Type 0 where
  pub row : (row : List Field) (line : List ℕ) → NoNewline line → (row_of line ≡ Ok row) ↔ SpellsRow row line
  pub fault : (line : List ℕ) (f : CopyFault) → (row_of line ≡ Err f) ↔ IsFirstFault line f

-- ---- one in front of what reading gives

abbrev in_front : {A F : Type 0} → A → Result (List A) F → Result (List A) F
in_front {A} {F} x r = r >>= (λ (xs : List A). let all : Result (List A) F = Ok (x ∷ xs) in all)

front_ok : {A F : Type 0} (x : A) (r : Result (List A) F) (ys : List A) → in_front x r ≡ Ok ys → (xs : List A) × (r ≡ Ok xs) × (ys ≡ x ∷ xs)
front_ok x (Ok xs) ys is = (xs, refl, cc)
front_ok x (Err e) ys is = absurd cc

front_err : {A F : Type 0} (x : A) (r : Result (List A) F) (e : F) → in_front x r ≡ Err e → r ≡ Err e
front_err x (Ok xs) e is = absurd cc
front_err x (Err f) e is = is

is_some : {A : Type 0} (o : Option A) (x : A) → o ≡ Some x → IsSome o
is_some o x is = rw is refl

-- ---- columns

abbrev from_column : ℕ → List Field → Place
from_column n fields = record { column = n; fields = fields }

abbrev next_columns : ColKind → List ColKind → ℕ → List Field → Option Cell → Result (List Cell) RowFault
next_columns kind kinds n fields None = Err (BadCell n kind)
next_columns kind kinds n fields (Some cell) = in_front cell (cells_at kinds (from_column (n + 1) fields))

cells_at-step : (kind : ColKind) (kinds : List ColKind) (n : ℕ) (field : Field) (fields : List Field) → cells_at (kind ∷ kinds) (from_column n (field ∷ fields)) ≡ next_columns kind kinds n fields (cell_of kind field)
unfolding cells_at cell_at
cells_at-step kind kinds n field fields = by (cell_of kind field) refl
  where
    by : (o : Option Cell) → cell_of kind field ≡ o → cells_at (kind ∷ kinds) (from_column n (field ∷ fields)) ≡ next_columns kind kinds n fields o
    by None is = rw is refl
    by (Some cell) is = rw is refl

-- the cells that were read are those of their columns
columns_hold : (kinds : List ColKind) (n : ℕ) (fields : List Field) (row : List Cell) → length fields ≡ length kinds → cells_at kinds (from_column n fields) ≡ Ok row → AllZip SpellsCell (zip kinds fields) row
unfolding cells_at
columns_hold [] n fields [] same read = tt
columns_hold [] n fields (cell ∷ row) same read = absurd cc
columns_hold (kind ∷ kinds) n [] row same read = absurd (omega arith)
columns_hold (kind ∷ kinds) n (field ∷ fields) row same read = by (λ rest. columns_hold kinds (n + 1) fields rest (omega arith)) (cell_of kind field) refl
  where
    by : ((rest : List Cell) → cells_at kinds (from_column (n + 1) fields) ≡ Ok rest → AllZip SpellsCell (zip kinds fields) rest) → (o : Option Cell) → cell_of kind field ≡ o → AllZip SpellsCell ((kind, field) ∷ zip kinds fields) row
    by again None is =
        let opened : Ok row ≡ Err (BadCell n kind) = sym read ∙ cells_at-step kind kinds n field fields ∙ ap (next_columns kind kinds n fields) is in
        absurd cc
    by again (Some cell) is =
        let opened = sym (ap (next_columns kind kinds n fields) is) ∙ sym (cells_at-step kind kinds n field fields) ∙ read in
        let rest = front_ok cell (cells_at kinds (from_column (n + 1) fields)) row opened in
        subst (λ (cells : List Cell). AllZip SpellsCell ((kind, field) ∷ zip kinds fields) cells) (sym rest.2) (is, again rest.0 rest.1)

-- the cells of columns are read
columns_read : (kinds : List ColKind) (n : ℕ) (fields : List Field) (row : List Cell) → length fields ≡ length kinds → AllZip SpellsCell (zip kinds fields) row → cells_at kinds (from_column n fields) ≡ Ok row
unfolding cells_at
columns_read [] n fields [] same each = refl
columns_read [] n fields (cell ∷ row) same each = absurd each
columns_read (kind ∷ kinds) n [] row same each = absurd (omega arith)
columns_read (kind ∷ kinds) n (field ∷ fields) [] same each = absurd each
columns_read (kind ∷ kinds) n (field ∷ fields) (cell ∷ row) same each =
    cells_at-step kind kinds n field fields ∙ ap (next_columns kind kinds n fields) each.0 ∙ ap (in_front cell) (columns_read kinds (n + 1) fields row (omega arith) each.1)

-- a bad column, of which the first of all has the number n
record IsBadFrom (n : ℕ) (all : List Column) (fault : RowFault) : Type 0 where
  at : ℕ
  kind : ColKind
  is : fault ≡ BadCell at kind
  before : List Column
  field : Field
  after : List Column
  split : all ≡ before ++ (kind, field) ∷ after
  number : at ≡ n + length before
  bad : cell_of kind field ≡ None
  good : AllByRecursion (λ column. IsSome (cell_of column.0 column.1)) before

columns_fail : (kinds : List ColKind) (n : ℕ) (fields : List Field) (fault : RowFault) → length fields ≡ length kinds → cells_at kinds (from_column n fields) ≡ Err fault → IsBadFrom n (zip kinds fields) fault
unfolding cells_at
columns_fail [] n fields fault same read = absurd cc
columns_fail (kind ∷ kinds) n [] fault same read = absurd (omega arith)
columns_fail (kind ∷ kinds) n (field ∷ fields) fault same read = by (columns_fail kinds (n + 1) fields fault (omega arith)) (cell_of kind field) refl
  where
    by : (cells_at kinds (from_column (n + 1) fields) ≡ Err fault → IsBadFrom (n + 1) (zip kinds fields) fault) → (o : Option Cell) → cell_of kind field ≡ o → IsBadFrom n ((kind, field) ∷ zip kinds fields) fault
    by again None is =
        let opened : Err fault ≡ Err (BadCell n kind) = sym read ∙ cells_at-step kind kinds n field fields ∙ ap (next_columns kind kinds n fields) is in
        record { at = n; kind = kind; is = cc; before = []; field = field; after = zip kinds fields; split = refl; number = omega arith; bad = is; good = tt }
    by again (Some cell) is =
        let opened = sym (ap (next_columns kind kinds n fields) is) ∙ sym (cells_at-step kind kinds n field fields) ∙ read in
        let rest = again (front_err cell (cells_at kinds (from_column (n + 1) fields)) fault opened) in
        record {
          at = rest.at;
          kind = rest.kind;
          is = rest.is;
          before = (kind, field) ∷ rest.before;
          field = rest.field;
          after = rest.after;
          split = ap (λ (all : List Column). (kind, field) ∷ all) rest.split;
          number = omega (arith, rest.number);
          bad = rest.bad;
          good = (is_some (cell_of kind field) cell is, rest.good);
        }

columns_refuse : (before : List Column) (kinds : List ColKind) (n : ℕ) (fields : List Field) (kind : ColKind) (field : Field) (after : List Column) → zip kinds fields ≡ before ++ (kind, field) ∷ after → cell_of kind field ≡ None → AllByRecursion (λ column. IsSome (cell_of column.0 column.1)) before → cells_at kinds (from_column n fields) ≡ Err (BadCell (n + length before) kind)
columns_refuse before [] n fields kind field after split bad good = absurd (nothing before split)
  where
    nothing : (before : List Column) → [] ≡ before ++ (kind, field) ∷ after → ⊥
    nothing [] is = absurd cc
    nothing (column ∷ before) is = absurd cc
columns_refuse before (k ∷ kinds) n [] kind field after split bad good = absurd (nothing before split)
  where
    nothing : (before : List Column) → [] ≡ before ++ (kind, field) ∷ after → ⊥
    nothing [] is = absurd cc
    nothing (column ∷ before) is = absurd cc
columns_refuse [] (k ∷ kinds) n (f ∷ fields) kind field after split bad good =
    let number : n ≡ n + 0 = omega arith in
    let same : (k, f) ≡ (kind, field) = cc in
    let same_kind : k ≡ kind = ap (λ (column : Column). column.0) same in
    let none : cell_of k f ≡ None = ap (λ (column : Column). cell_of column.0 column.1) same ∙ bad in
    cells_at-step k kinds n f fields ∙ ap (next_columns k kinds n fields) none ∙ ap (λ (x : ColKind). Err (BadCell n x)) same_kind ∙ ap (λ (x : ℕ). Err (BadCell x kind)) number
columns_refuse (column ∷ before) (k ∷ kinds) n (f ∷ fields) kind field after split bad good =
    let same : (k, f) ≡ column = cc in
    let rest : zip kinds fields ≡ before ++ (kind, field) ∷ after = cc in
    let some : IsSome (cell_of k f) = subst (λ (c : Column). IsSome (cell_of c.0 c.1)) (sym same) good.0 in
    cells_at-step k kinds n f fields ∙ by (columns_refuse before kinds (n + 1) fields kind field after rest bad good.1) (cell_of k f) some
  where
    by : cells_at kinds (from_column (n + 1) fields) ≡ Err (BadCell (n + 1 + length before) kind) → (o : Option Cell) → IsSome o → next_columns k kinds n fields o ≡ Err (BadCell (n + length (column ∷ before)) kind)
    by again None some = absurd cc
    by again (Some cell) some =
        let number : n + 1 + length before ≡ n + length (column ∷ before) = omega arith in
        ap (in_front cell) again ∙ ap (λ (x : ℕ). Err (BadCell x kind)) number

-- ---- lines

abbrev of_fields : List ColKind → List Field → Bool → Result (List Cell) RowFault
of_fields kinds fields true = cells_at kinds (from_column 1 fields)
of_fields kinds fields false = Err (Columns (length fields))

cells_of-copied : (kinds : List ColKind) (line : List ℕ) (fields : List Field) → row_of line ≡ Ok fields → cells_of kinds line ≡ of_fields kinds fields (eqb (length fields) (length kinds))
unfolding cells_of row_start
cells_of-copied kinds line fields read = rw read (by (eqb (length fields) (length kinds)) refl)
  where
    by : (same : Bool) → eqb (length fields) (length kinds) ≡ same → ((cond same (Ok (from_column 1 fields)) (Err (Columns (length fields)))) >>= (λ place. cells_at kinds place)) ≡ of_fields kinds fields same
    by true is = refl
    by false is = refl

cells_of-uncopied : (kinds : List ColKind) (line : List ℕ) (fault : CopyFault) → row_of line ≡ Err fault → cells_of kinds line ≡ Err (Copy fault)
unfolding cells_of row_start
cells_of-uncopied kinds line fault read = rw read refl

-- what reading a line gives is what the line holds
abbrev IsDue : List ColKind → List ℕ → Result (List Cell) RowFault → Type 0
IsDue kinds line (Ok row) = HoldsRow kinds line row
IsDue kinds line (Err fault) = IsRowFault kinds line fault

due_of_columns : Copied → (kinds : List ColKind) (line : List ℕ) (fields : List Field) → SpellsRow fields line → length fields ≡ length kinds → (r : Result (List Cell) RowFault) → cells_at kinds (from_column 1 fields) ≡ r → IsDue kinds line r
due_of_columns told kinds line fields spells same (Ok row) read =
    record { fields = fields; copied = spells; as_many = same; each = columns_hold kinds 1 fields row same read }
due_of_columns told kinds line fields spells same (Err fault) read =
    let found = columns_fail kinds 1 fields fault same read in
    let first : IsFirstBad (zip kinds fields) found.at found.kind = record {
      before = found.before;
      field = found.field;
      after = found.after;
      split = found.split;
      number = omega (arith, found.number);
      bad = found.bad;
      good = found.good;
    } in
    subst (λ (f : RowFault). IsRowFault kinds line f) (sym found.is) (fields, spells, same, first)

line_is_due : Copied → (kinds : List ColKind) (line : List ℕ) → NoNewline line → (r : Result (List Cell) RowFault) → cells_of kinds line ≡ r → IsDue kinds line r
line_is_due told kinds line none r read = by (row_of line) refl
  where
    P : Result (List Cell) RowFault → Type 0
    P s = IsDue kinds line s

    counted : (fields : List Field) → SpellsRow fields line → (same : Bool) → eqb (length fields) (length kinds) ≡ same → of_fields kinds fields same ≡ r → IsDue kinds line r
    counted fields spells true is opened = due_of_columns told kinds line fields spells (eqb-true _ _ is) r opened
    counted fields spells false is opened = subst P opened (fields, spells, refl, λ equal. absurd (by_false (eq-eqb _ _ equal)))
      where
        by_false : eqb (length fields) (length kinds) ≡ true → ⊥
        by_false equal_too = absurd cc

    by : (copied : Result (List Field) CopyFault) → row_of line ≡ copied → IsDue kinds line r
    by (Ok fields) is = counted fields ((told.row fields line none).0 is) (eqb (length fields) (length kinds)) refl (sym (cells_of-copied kinds line fields is) ∙ read)
    by (Err fault) is = subst P (sym (cells_of-uncopied kinds line fault is) ∙ read) ((told.fault line fault).0 is)

-- what a line holds is read
row_is_read : Copied → (kinds : List ColKind) (line : List ℕ) → NoNewline line → (row : List Cell) → HoldsRow kinds line row → cells_of kinds line ≡ Ok row
row_is_read told kinds line none row holds =
    cells_of-copied kinds line holds.fields ((told.row holds.fields line none).1 holds.copied)
    ∙ ap (of_fields kinds holds.fields) (eq-eqb _ _ holds.as_many)
    ∙ columns_read kinds 1 holds.fields row holds.as_many holds.each

fault_is_read : Copied → (kinds : List ColKind) (line : List ℕ) → NoNewline line → (fault : RowFault) → IsRowFault kinds line fault → cells_of kinds line ≡ Err fault
fault_is_read told kinds line none (Copy fault) is = cells_of-uncopied kinds line fault ((told.fault line fault).1 is)
fault_is_read told kinds line none (Columns n) is =
    let differs : eqb (length is.0) (length kinds) ≡ false = false_from_ne_true _ (λ equal_too. is.3 (is.2 ∙ eqb-true _ _ equal_too)) in
    cells_of-copied kinds line is.0 ((told.row is.0 line none).1 is.1)
    ∙ ap (of_fields kinds is.0) differs
    ∙ ap (λ (x : ℕ). Err (Columns x)) (sym is.2)
fault_is_read told kinds line none (BadCell n kind) is =
    let number : 1 + length is.3.before ≡ n = omega (arith, is.3.number) in
    cells_of-copied kinds line is.0 ((told.row is.0 line none).1 is.1)
    ∙ ap (of_fields kinds is.0) (eq-eqb _ _ is.2)
    ∙ columns_refuse is.3.before kinds 1 is.0 kind is.3.field is.3.after is.3.split is.3.bad is.3.good
    ∙ ap (λ (x : ℕ). Err (BadCell x kind)) number

pub reading_a_row : Copied → (kinds : List ColKind) (line : List ℕ) (row : List Cell) → NoNewline line → (cells_of kinds line ≡ Ok row) ↔ HoldsRow kinds line row
reading_a_row told kinds line row none = (line_is_due told kinds line none (Ok row), row_is_read told kinds line none row)

pub reading_a_fault : Copied → (kinds : List ColKind) (line : List ℕ) (fault : RowFault) → NoNewline line → (cells_of kinds line ≡ Err fault) ↔ IsRowFault kinds line fault
reading_a_fault told kinds line fault none = (line_is_due told kinds line none (Err fault), fault_is_read told kinds line none fault)

-- ---- texts

abbrev next_rows : List ColKind → ℕ → List (List ℕ) → Result (List Cell) RowFault → Result (List (List Cell)) TableFault
next_rows kinds n more (Ok row) = in_front row (table_from kinds (n + 1) more)
next_rows kinds n more (Err fault) = Err (record { line = n; fault = fault })

table_from-step : (kinds : List ColKind) (n : ℕ) (line : List ℕ) (more : List (List ℕ)) → table_from kinds n (line ∷ more) ≡ next_rows kinds n more (cells_of kinds line)
unfolding table_from
table_from-step kinds n line more = by (cells_of kinds line) refl
  where
    by : (r : Result (List Cell) RowFault) → cells_of kinds line ≡ r → table_from kinds n (line ∷ more) ≡ next_rows kinds n more r
    by (Ok row) is = rw is refl
    by (Err fault) is = rw is refl

abbrev HoldsLines : List ColKind → List (List ℕ) → List (List Cell) → Type 0
HoldsLines kinds ls rows = AllZip (λ line row. HoldsRow kinds line row) ls rows

lines_hold : Copied → (kinds : List ColKind) (n : ℕ) (ls : List (List ℕ)) → NoNewlines ls → (rows : List (List Cell)) → table_from kinds n ls ≡ Ok rows → HoldsLines kinds ls rows
unfolding table_from
lines_hold told kinds n [] none [] read = tt
lines_hold told kinds n [] none (row ∷ rows) read = absurd cc
lines_hold told kinds n (line ∷ more) none rows read = by (lines_hold told kinds (n + 1) more none.1) (cells_of kinds line) refl
  where
    by : ((rest : List (List Cell)) → table_from kinds (n + 1) more ≡ Ok rest → HoldsLines kinds more rest) → (r : Result (List Cell) RowFault) → cells_of kinds line ≡ r → HoldsLines kinds (line ∷ more) rows
    by again (Err fault) is =
        let opened : Ok rows ≡ Err (record { line = n; fault = fault }) = sym read ∙ table_from-step kinds n line more ∙ ap (next_rows kinds n more) is in
        absurd cc
    by again (Ok row) is =
        let opened = sym (ap (next_rows kinds n more) is) ∙ sym (table_from-step kinds n line more) ∙ read in
        let rest = front_ok row (table_from kinds (n + 1) more) rows opened in
        subst (λ (all : List (List Cell)). HoldsLines kinds (line ∷ more) all) (sym rest.2)
        ((reading_a_row told kinds line row none.0).0 is, again rest.0 rest.1)

lines_read : Copied → (kinds : List ColKind) (n : ℕ) (ls : List (List ℕ)) → NoNewlines ls → (rows : List (List Cell)) → HoldsLines kinds ls rows → table_from kinds n ls ≡ Ok rows
unfolding table_from
lines_read told kinds n [] none [] holds = refl
lines_read told kinds n [] none (row ∷ rows) holds = absurd holds
lines_read told kinds n (line ∷ more) none [] holds = absurd holds
lines_read told kinds n (line ∷ more) none (row ∷ rows) holds =
    table_from-step kinds n line more
    ∙ ap (next_rows kinds n more) ((reading_a_row told kinds line row none.0).1 holds.0)
    ∙ ap (in_front row) (lines_read told kinds (n + 1) more none.1 rows holds.1)

-- the first line without a row, where the first of all has the number n
record IsFirstFrom (kinds : List ColKind) (n : ℕ) (all : List (List ℕ)) (first : TableFault) : Type 0 where
  before : List (List ℕ)
  line : List ℕ
  after : List (List ℕ)
  split : all ≡ before ++ line ∷ after
  number : first.line ≡ n + length before
  fault : IsRowFault kinds line first.fault
  good : AllByRecursion (λ line. (row : List Cell) × HoldsRow kinds line row) before

lines_fail : Copied → (kinds : List ColKind) (n : ℕ) (ls : List (List ℕ)) → NoNewlines ls → (first : TableFault) → table_from kinds n ls ≡ Err first → IsFirstFrom kinds n ls first
unfolding table_from
lines_fail told kinds n [] none first read = absurd cc
lines_fail told kinds n (line ∷ more) none first read = by (lines_fail told kinds (n + 1) more none.1 first) (cells_of kinds line) refl
  where
    by : (table_from kinds (n + 1) more ≡ Err first → IsFirstFrom kinds (n + 1) more first) → (r : Result (List Cell) RowFault) → cells_of kinds line ≡ r → IsFirstFrom kinds n (line ∷ more) first
    by again (Err fault) is =
        let opened : Err first ≡ Err (record { line = n; fault = fault }) = sym read ∙ table_from-step kinds n line more ∙ ap (next_rows kinds n more) is in
        let same : first ≡ record { line = n; fault = fault } = cc in
        let number : first.line ≡ n = ap (λ (f : TableFault). f.line) same in
        let what : fault ≡ first.fault = sym (ap (λ (f : TableFault). f.fault) same) in
        record {
          before = [];
          line = line;
          after = more;
          split = refl;
          number = omega arith;
          fault = subst (λ (f : RowFault). IsRowFault kinds line f) what ((reading_a_fault told kinds line fault none.0).0 is);
          good = tt;
        }
    by again (Ok row) is =
        let opened = sym (ap (next_rows kinds n more) is) ∙ sym (table_from-step kinds n line more) ∙ read in
        let rest = again (front_err row (table_from kinds (n + 1) more) first opened) in
        record {
          before = line ∷ rest.before;
          line = rest.line;
          after = rest.after;
          split = ap (λ (all : List (List ℕ)). line ∷ all) rest.split;
          number = omega (arith, rest.number);
          fault = rest.fault;
          good = ((row, (reading_a_row told kinds line row none.0).0 is), rest.good);
        }

lines_refuse : Copied → (kinds : List ColKind) (before : List (List ℕ)) (n : ℕ) (line : List ℕ) (after : List (List ℕ)) (fault : RowFault) → NoNewlines (before ++ line ∷ after) → IsRowFault kinds line fault → AllByRecursion (λ line. (row : List Cell) × HoldsRow kinds line row) before → table_from kinds n (before ++ line ∷ after) ≡ Err (record { line = n + length before; fault = fault })
lines_refuse told kinds [] n line after fault none is good =
    let number : n ≡ n + 0 = omega arith in
    table_from-step kinds n line after
    ∙ ap (next_rows kinds n after) ((reading_a_fault told kinds line fault none.0).1 is)
    ∙ ap (λ (x : ℕ). Err (record { line = x; fault = fault })) number
lines_refuse told kinds (first ∷ before) n line after fault none is good =
    let number : n + 1 + length before ≡ n + length (first ∷ before) = omega arith in
    table_from-step kinds n first (before ++ line ∷ after)
    ∙ ap (next_rows kinds n (before ++ line ∷ after)) ((reading_a_row told kinds first good.0.0 none.0).1 good.0.1)
    ∙ ap (in_front good.0.0) (lines_refuse told kinds before (n + 1) line after fault none.1 is good.1)
    ∙ ap (λ (x : ℕ). Err (record { line = x; fault = fault })) number

before_end_mark-no_newline : (ls : List (List ℕ)) → NoNewlines ls → NoNewlines (before_end_mark ls)
before_end_mark-no_newline [] none = tt
before_end_mark-no_newline (line ∷ more) none = by (before_end_mark-no_newline more none.1) (bytes_eq line end_mark)
  where
    by : NoNewlines (before_end_mark more) → (ends : Bool) → NoNewlines (cond ends [] (line ∷ before_end_mark more))
    by again true = tt
    by again false = (none.0, again)

data_lines-no_newline : (text : List ℕ) → NoNewlines (data_lines text)
data_lines-no_newline text = before_end_mark-no_newline (lines text) (lines-no_newline text)

pub reading_rows : Copied → (table : SysTable) (text : List ℕ) (rows : List (List Cell)) → (table_of table text ≡ Ok rows) ↔ HoldsRows table text rows
unfolding table_of
reading_rows told table text rows =
    (lines_hold told (columns table) 1 (data_lines text) (data_lines-no_newline text) rows, lines_read told (columns table) 1 (data_lines text) (data_lines-no_newline text) rows)

pub reading_a_first_fault : Copied → (table : SysTable) (text : List ℕ) (first : TableFault) → (table_of table text ≡ Err first) ↔ IsFirstFaultOf table text first
unfolding table_of
reading_a_first_fault told table text first = (found, read)
  where
    found : table_from (columns table) 1 (data_lines text) ≡ Err first → IsFirstFaultOf table text first
    found is =
        let from = lines_fail told (columns table) 1 (data_lines text) (data_lines-no_newline text) first is in
        record {
          before = from.before;
          line = from.line;
          after = from.after;
          split = from.split;
          number = omega (arith, from.number);
          fault = from.fault;
          good = from.good;
        }

    read : IsFirstFaultOf table text first → table_from (columns table) 1 (data_lines text) ≡ Err first
    read is =
        let none : NoNewlines (is.before ++ is.line ∷ is.after) = subst NoNewlines is.split (data_lines-no_newline text) in
        let number : 1 + length is.before ≡ first.line = omega (arith, is.number) in
        ap (table_from (columns table) 1) is.split
        ∙ lines_refuse told (columns table) is.before 1 is.line is.after first.fault none is.fault is.good
        ∙ ap (λ (x : ℕ). Err (record { line = x; fault = first.fault })) number
