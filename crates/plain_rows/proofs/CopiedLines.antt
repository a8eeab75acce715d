-- A text whose lines fit a table is copied into it.
use Rattle.std.proofs.Common.{◌≡◌, ℕ, ◌+◌, Bool, cond, List, [], ◌∷◌, ◌++◌, length, map, Option, Some, None, Result, Ok, Err, refl, sym, ap, ◌∙◌}
use Rattle.std.specs.FinMap.{entries, get}
use Rattle.std.specs.List.{AllByRecursion, filter_map}
use Rattle.std.specs.Result.{result_ok}
use Rattle.std.proofs.lemmas.Bool.{eq-eqb}
use Rattle.copy_text.specs.Lines.{data_lines}
use Rattle.copy_text.specs.Reading.{row_of}
use Rattle.cat_model.specs.declared.cause.Cause.{Cause}
use Rattle.cat_model.specs.declared.cause.Cause.TheVariants as cause
use Rattle.cat_model.specs.declared.class.Class.TheVariants as class
use Rattle.cat_model.specs.declared.key.Key.{Key}
use Rattle.cat_model.specs.declared.key.Key.TheVariants as key
use Rattle.cat_model.specs.declared.object.QName.{QName}
use Rattle.cat_model.specs.declared.value.Column.{Column}
use Rattle.cat_model.specs.declared.value.Value.{Value}
use Rattle.cat_model.specs.declared.value.Value.TheVariants as value
use Rattle.cat_model.specs.Values.{Bytes, Named, Row}
use Rattle.cat_model.specs.Conditions.{if_table, check}
use Rattle.cat_model.specs.CopiedRows.{all_columns, copied_rows, fields_cause, onto_rows, row_or, row_read, rows_read}
use Rattle.cat_model.specs.CopyEffect.{Unique, Foreign, by_name, copy_rows, foreign_in, primary_columns, unique_in, rows_added, all_have_parents}
use Rattle.cat_model.specs.KeyEffects.{rows_in}
use Rattle.cat_model.specs.RowTexts.{rows_held}
use Rattle.cat_model.specs.Trees.{Tree, class_of, look, outcome, scan, seen, sets}
use Rattle.rows_fit.specs.KeyCauses.{linked, parent_cause, refused_or, unique_cause}
use Rattle.rows_fit.proofs.KeyLaws.{uniques_tried, parents_tried}
use Rattle.plain_rows.specs.Lines.{LineFits}

row_taken : (columns : List Column) (primary : List Bytes) (n : ℕ) (row : Row) → length row ≡ length columns → fields_cause primary n 1 columns row ≡ None → row_read columns [] primary n (Ok row) ≡ Ok row
row_taken columns primary n row many taken =
    ap (λ (b : Bool). cond {A = Result Row Cause} b (row_or row (fields_cause primary n 1 columns row)) (Err (cause.Fields n (length row)))) (eq-eqb _ _ many)
    ∙ ap (row_or row) taken

pub lines_taken : (columns : List Column) (primary : List Bytes) (n : ℕ) (lines : List Bytes) → AllByRecursion (LineFits columns primary) lines → rows_read columns [] primary n lines ≡ Ok (filter_map result_ok (map row_of lines))
lines_taken columns primary n [] all = refl
lines_taken columns primary n (line ∷ lines) all =
    let fit = all.0 in
    let here : row_read columns [] primary n (row_of line) ≡ Ok fit.row = ap (row_read columns [] primary n) fit.reads ∙ row_taken columns primary n fit.row fit.many (fit.taken n) in
    let later = lines_taken columns primary (n + 1) lines all.1 in
    ap (λ r. onto_rows r (rows_read columns [] primary (n + 1) lines)) here
    ∙ ap (λ rs. onto_rows (Ok fit.row) rs) later
    ∙ ap (λ r. Ok (filter_map result_ok (r ∷ map row_of lines))) (sym fit.reads)

module _ (named : Named) (q : QName) (columns : List Column) (text : Bytes) where
  abbrev constraints : List (Key × Value)
  constraints = entries (class_of named (class.Constraints q))

  abbrev indexes : List (Key × Value)
  indexes = entries (class_of named (class.Indexes q))

  abbrev uniques : List Unique
  uniques = by_name (filter_map unique_in (constraints ++ indexes))

  abbrev foreigns : List Foreign
  foreigns = filter_map foreign_in constraints

  abbrev new : List Row
  new = rows_held text

  abbrev behind : List Column → Tree
  behind columns =
      check (all_columns columns []) cause.WrongColumns
      (scan (class.Constraints q) (λ constraints.
      scan (class.Indexes q) (λ indexes.
      look (key.Rows q) (λ rows.
      rows_added q columns (by_name (filter_map unique_in (constraints ++ indexes))) (filter_map foreign_in constraints) (rows_in rows)
      (copied_rows columns [] (primary_columns constraints) text)))))

  abbrev last : Tree
  last = sets ((key.Rows q, Some (value.Rows new)) ∷ [])

  pub copied : get named (key.Rel q) ≡ Some (value.Table columns) → rows_in (get named (key.Rows q)) ≡ []
      → AllByRecursion (LineFits columns (primary_columns constraints)) (data_lines text)
      → unique_cause uniques columns new ≡ None
      → parent_cause (map (linked (seen named) q new) foreigns) columns new ≡ None
      → outcome (copy_rows q [] text) (seen named) ≡ Ok ((key.Rows q, Some (value.Rows new)) ∷ [])
  copied table empty fit unique parents =
      ap (λ (v : Option Value). outcome (if_table q behind v) (seen named)) table
      ∙ ap (λ (old : List Row). outcome (rows_added q columns uniques foreigns old (copied_rows columns [] (primary_columns constraints) text)) (seen named)) empty
      ∙ ap (λ (r : Result (List Row) Cause). outcome (rows_added q columns uniques foreigns [] r) (seen named)) (lines_taken columns (primary_columns constraints) 1 (data_lines text) fit)
      ∙ uniques_tried uniques columns new (all_have_parents q foreigns columns new new last) (seen named)
      ∙ ap (λ (because : Option Cause). refused_or because (outcome (all_have_parents q foreigns columns new new last) (seen named))) unique
      ∙ parents_tried q foreigns columns new new last (seen named)
      ∙ ap (λ (because : Option Cause). refused_or because (outcome last (seen named))) parents
