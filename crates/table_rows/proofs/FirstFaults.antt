-- The first fault of the texts of tables, one table after another.
use Rattle.std.proofs.Common.{◌≡◌, ℕ, ◌+◌, ◌<◌, ◌≤◌, true, List, [], ◌∷◌, ◌++◌, length, map, drop, get_or, Option, Some, None, Result, Ok, Err, refl, sym, ap, ◌∙◌, add-one}
use Rattle.std.specs.List.{AllByRecursion, list_all}
use Rattle.std.specs.Option.{option_or}
use Rattle.std.specs.Result.{is_ok}
use Rattle.std.proofs.Math.Seq.{drop-cons}
use Rattle.std.proofs.lemmas.List.{drop_all}
use Rattle.copy_text.specs.Rows.{Field}
use Rattle.copy_text.specs.declared.fault.CopyFault.{CopyFault}
use Rattle.data_rows.specs.declared.fault.RowsFault.{RowsFault}
use Rattle.data_rows.specs.Rows.{read_lines, rows_of}
use Rattle.cat_model.specs.Values.{Bytes}
use Rattle.table_rows.specs.declared.fault.ValuesFault.{ValuesFault}
use Rattle.table_rows.specs.declared.fault.CheckValuesError.{CheckValuesError}
use Rattle.table_rows.specs.declared.fault.CheckValuesError.TheVariants.{Fault, Memory}
use Rattle.table_rows.specs.Values.{fault_in, first_fault, GivesCheck}

-- what a text reads as
abbrev Due : Type 0
Due = Result (List (List Field)) RowsFault

module _ (columns : ℕ → ℕ) (text : ℕ → Bytes) where
  -- what is wrong with a table
  abbrev pub fault_of : ℕ → Option ValuesFault
  fault_of table = fault_in table (rows_of (columns table) (text table))

  -- the table's text has rows
  abbrev pub HasRows : ℕ → Type 0
  HasRows table = is_ok (rows_of (columns table) (text table)) ≡ true

  -- ---- going over the tables

  -- what is left begins with the table at the index
  ahead : (tables : List ℕ) (i : ℕ) → i < length tables → first_fault columns text (drop i tables) ≡ option_or (fault_of (get_or tables i 0)) (first_fault columns text (drop (i + 1) tables))
  unfolding first_fault
  ahead tables i within = ap (first_fault columns text) (drop-cons tables i 0 within ∙ ap (λ n. get_or tables i 0 ∷ drop n tables) (sym (add-one i)))

  pub passed : (tables : List ℕ) (i : ℕ) (due : Option ValuesFault) → i < length tables → due ≡ first_fault columns text (drop i tables) → fault_of (get_or tables i 0) ≡ None → due ≡ first_fault columns text (drop (i + 1) tables)
  passed tables i due within so_far none = so_far ∙ ahead tables i within ∙ ap (λ o. option_or o (first_fault columns text (drop (i + 1) tables))) none

  pub failed : (error : CheckValuesError) (tables : List ℕ) (i : ℕ) (due : Option ValuesFault) → i < length tables → due ≡ first_fault columns text (drop i tables) → GivesCheck (Err error) (fault_of (get_or tables i 0)) → GivesCheck (Err error) due
  failed (Fault fault) tables i due within so_far wrong = so_far ∙ ahead tables i within ∙ ap (λ o. option_or o (first_fault columns text (drop (i + 1) tables))) wrong
  failed Memory tables i due within so_far wrong = tt

  pub ended : (tables : List ℕ) (i : ℕ) (due : Option ValuesFault) → length tables ≤ i → due ≡ first_fault columns text (drop i tables) → due ≡ None
  unfolding first_fault
  ended tables i due past so_far = so_far ∙ ap (first_fault columns text) (drop_all i tables past)

  -- ---- where there is no fault

  pub all_have_rows : (tables : List ℕ) → first_fault columns text tables ≡ None → AllByRecursion HasRows tables
  unfolding first_fault
  all_have_rows [] none = tt
  all_have_rows (table ∷ tables) none = by (all_have_rows tables) (rows_of (columns table) (text table)) refl
    where
      by : (first_fault columns text tables ≡ None → AllByRecursion HasRows tables) → (due : Due) → rows_of (columns table) (text table) ≡ due → AllByRecursion HasRows (table ∷ tables)
      by later (Ok rows) is = (ap is_ok is, later (sym (ap (λ (d : Due). option_or (fault_in table d) (first_fault columns text tables)) is) ∙ none))
      by later (Err first) is = let some = sym (ap (λ (d : Due). option_or (fault_in table d) (first_fault columns text tables)) is) ∙ none in absurd cc

  pub no_fault : (tables : List ℕ) → AllByRecursion HasRows tables → first_fault columns text tables ≡ None
  unfolding first_fault
  no_fault [] all = refl
  no_fault (table ∷ tables) all = by (no_fault tables all.1) (rows_of (columns table) (text table)) refl
    where
      by : first_fault columns text tables ≡ None → (due : Due) → rows_of (columns table) (text table) ≡ due → option_or (fault_of table) (first_fault columns text tables) ≡ None
      by later (Ok rows) is = ap (λ (d : Due). option_or (fault_in table d) (first_fault columns text tables)) is ∙ later
      by later (Err first) is = let good = sym (ap is_ok is) ∙ all.0 in absurd cc

  -- ---- where there is one

  -- the tables before the one that fails have rows
  pub record Fails (tables : List ℕ) (fault : ValuesFault) : Type 0 where
    pub before : List ℕ
    pub after : List ℕ
    pub split : tables ≡ before ++ fault.table ∷ after
    pub good : AllByRecursion HasRows before
    pub fails : rows_of (columns fault.table) (text fault.table) ≡ Err (record { row = fault.row; fault = fault.fault })

  pub fails_first : (tables : List ℕ) (fault : ValuesFault) → first_fault columns text tables ≡ Some fault → Fails tables fault
  unfolding first_fault
  fails_first [] fault some = absurd cc
  fails_first (table ∷ tables) fault some = by (fails_first tables fault) (rows_of (columns table) (text table)) refl
    where
      by : (first_fault columns text tables ≡ Some fault → Fails tables fault) → (due : Due) → rows_of (columns table) (text table) ≡ due → Fails (table ∷ tables) fault
      by again (Ok rows) is =
          let later = again (sym (ap (λ (d : Due). option_or (fault_in table d) (first_fault columns text tables)) is) ∙ some) in
          record {
            before = table ∷ later.before;
            after = later.after;
            split = ap (λ (l : List ℕ). table ∷ l) later.split;
            good = (ap is_ok is, later.good);
            fails = later.fails;
          }
      by again (Err first) is =
          let same : Some (record { table = table; row = first.row; fault = first.fault }) ≡ Some fault = sym (ap (λ (d : Due). option_or (fault_in table d) (first_fault columns text tables)) is) ∙ some in
          let here : record { table = table; row = first.row; fault = first.fault } ≡ fault = cc in
          record {
            before = [];
            after = tables;
            split = ap (λ (f : ValuesFault). f.table ∷ tables) here;
            good = tt;
            fails = ap (λ (f : ValuesFault). rows_of (columns f.table) (text f.table)) (sym here) ∙ is ∙ ap (λ (f : ValuesFault). Err (record { row = f.row; fault = f.fault })) here;
          }

-- ---- lines

rows_are_ok : (rows : List (List Field)) → list_all (is_ok {E = CopyFault}) (map Ok rows) ≡ true
rows_are_ok [] = refl
rows_are_ok (row ∷ rows) = rows_are_ok rows

-- a text that has rows has lines that read as them
pub lines_read : ((columns : ℕ) (text : List ℕ) (rows : List (List Field)) → rows_of columns text ≡ Ok rows → read_lines text ≡ map Ok rows)
    → (columns : ℕ) (text : List ℕ) → is_ok (rows_of columns text) ≡ true → list_all is_ok (read_lines text) ≡ true
lines_read told columns text good = by (rows_of columns text) refl
  where
    by : (due : Due) → rows_of columns text ≡ due → list_all is_ok (read_lines text) ≡ true
    by (Ok rows) is = ap (list_all is_ok) (told columns text rows is) ∙ rows_are_ok rows
    by (Err first) is = let none = sym (ap is_ok is) ∙ good in absurd cc
