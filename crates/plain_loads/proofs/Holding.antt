-- Lines that fit a table are rows of it.
use Rattle.std.proofs.Common.{◌≡◌, ℕ, ◌+◌, Bool, true, List, [], ◌∷◌, length, map, Some, Result, Ok, Err, refl, ap, subst, ◌∙◌, if◌then◌else◌}
use Rattle.std.specs.FinMap.{get}
use Rattle.std.specs.List.{AllByRecursion}
use Rattle.std.specs.Result.{is_ok}
use Rattle.std.proofs.lemmas.Bool.{eq-eqb}
use Rattle.copy_text.specs.Lines.{data_lines}
use Rattle.copy_text.specs.Reading.{row_of}
use Rattle.copy_text.specs.Rows.{Field}
use Rattle.data_rows.specs.declared.fault.DataFault.TheVariants.{Fields}
use Rattle.data_rows.specs.declared.fault.RowsFault.{RowsFault}
use Rattle.data_rows.specs.Rows.{checked_row, in_front, numbered, rows_from, rows_of}
use Rattle.cat_rows.specs.declared.catalogue.Catalogue.{Catalogue}
use Rattle.cat_model.specs.declared.key.Key.TheVariants as key
use Rattle.cat_model.specs.declared.object.QName.{QName}
use Rattle.cat_model.specs.declared.value.Column.{Column}
use Rattle.cat_model.specs.declared.value.Value.TheVariants as value
use Rattle.cat_model.specs.Values.{Bytes, Named}
use Rattle.cat_names.specs.DataSets.{TextsByOid}
use Rattle.cat_book.specs.Paths.{class_path_of}
use Rattle.table_rows.specs.Tables.{column_count}
use Rattle.table_rows.specs.Values.{text_of}
use Rattle.plain_rows.specs.Lines.{LineFits}
use Rattle.plain_loads.specs.Meeting.{HasRows, Meets, MeetsAt, TableTakes}

one_more : (row : List Field) (others : Result (List (List Field)) RowsFault) → is_ok others ≡ true → is_ok (in_front (Ok row) others) ≡ true
one_more row (Ok rows) good = refl
one_more row (Err first) good = good

module _ (columns : List Column) (primary : List Bytes) (many : ℕ) (same : length columns ≡ many) where
  row_checked : (line : Bytes) (fits : LineFits columns primary line) → checked_row many (row_of line) ≡ Ok fits.row
  row_checked line fits =
      ap (checked_row many) fits.reads
      ∙ ap (λ (b : Bool). if b then Ok fits.row else Err (Fields (length fits.row))) (eq-eqb (length fits.row) many (fits.many ∙ same))

  lines_are_rows : (lines : List Bytes) (number : ℕ) → AllByRecursion (LineFits columns primary) lines → is_ok (rows_from many number (map row_of lines)) ≡ true
  unfolding rows_from
  lines_are_rows [] number all = refl
  lines_are_rows (line ∷ lines) number all =
      ap (λ read. is_ok (in_front (numbered number read) (rows_from many (number + 1) (map row_of lines)))) (row_checked line all.0)
      ∙ one_more all.0.row (rows_from many (number + 1) (map row_of lines)) (lines_are_rows lines (number + 1) all.1)

  text_has_rows : (text : Bytes) → AllByRecursion (LineFits columns primary) (data_lines text) → is_ok (rows_of many text) ≡ true
  unfolding rows_of
  text_has_rows text all = lines_are_rows (data_lines text) 1 all

module _ (named : Named) (cat : Catalogue) (texts : TextsByOid) where
  -- a table that takes its text's lines, and has as many columns as its rows need
  pub takes : (table : ℕ) (q : QName) → Some q ≡ class_path_of cat table
      → ((columns : List Column) → get named (key.Rel q) ≡ Some (value.Table columns) → length columns ≡ column_count cat table)
      → Meets named cat texts q (text_of texts table) → TableTakes named cat texts table
  takes table q is many meets = (
    subst (MeetsAt named cat texts table) is meets,
    text_has_rows meets.columns _ (column_count cat table) (many meets.columns meets.table) (text_of texts table) meets.lines,
  )

  pub all_meet : (tables : List ℕ) → AllByRecursion (TableTakes named cat texts) tables → AllByRecursion (λ table. MeetsAt named cat texts table (class_path_of cat table)) tables
  all_meet [] all = tt
  all_meet (table ∷ tables) all = (all.0.0, all_meet tables all.1)

  pub all_hold : (tables : List ℕ) → AllByRecursion (TableTakes named cat texts) tables → AllByRecursion (HasRows cat texts) tables
  all_hold [] all = tt
  all_hold (table ∷ tables) all = (all.0.1, all_hold tables all.1)
