-- Rows that COPY takes for a table have a field for each of its columns, and are the rows that the text holds.
use Rattle.std.proofs.Common.{◌≡◌, ℕ, ◌+◌, Bool, true, false, cond, List, [], ◌∷◌, ◌++◌, map, length, Option, Some, None, Result, Ok, Err, refl, sym, ap, subst, ◌∙◌}
use Rattle.std.specs.FinMap.{get, get-insert}
use Rattle.std.specs.List.{filter_map, list_all, cons_option}
use Rattle.std.specs.Prelude.{◌==◌}
use Rattle.std.specs.Result.{result_ok}
use Rattle.copy_text.specs.declared.fault.CopyFault.{CopyFault}
use Rattle.copy_text.specs.Lines.{data_lines}
use Rattle.copy_text.specs.Reading.{row_of}
use Rattle.cat_model.specs.declared.cause.Cause.{Cause}
use Rattle.cat_model.specs.declared.cause.Cause.TheVariants as cause
use Rattle.cat_model.specs.declared.class.Class.TheVariants as class
use Rattle.cat_model.specs.declared.key.Key.TheVariants as key
use Rattle.cat_model.specs.declared.object.QName.{QName}
use Rattle.cat_model.specs.declared.value.Column.{Column}
use Rattle.cat_model.specs.declared.value.Value.{Value}
use Rattle.cat_model.specs.declared.value.Value.TheVariants as value
use Rattle.cat_model.specs.Conditions.{check, if_table}
use Rattle.cat_model.specs.CopiedRows.{all_columns, fields_cause, row_or, row_read, onto_rows, rows_read, copied_rows}
use Rattle.cat_model.specs.CopyEffect.{Unique, Foreign, by_name, unique_in, foreign_in, primary_columns, rows_added}
use Rattle.cat_model.specs.KeyEffects.{rows_in}
use Rattle.cat_model.specs.KeyLaws.{key_cmp_total}
use Rattle.cat_model.specs.RowTexts.{rows_held}
use Rattle.cat_model.specs.Trees.{Tree, scan, look, outcome, seen}
use Rattle.cat_model.specs.Values.{Bytes, Row, Named}
use Rattle.cat_load.specs.Loads.{rows_there, with_rows, with_none, emptied, cause_of, refusal_of, table_cause}
use Rattle.cat_sound.specs.Asked.{is_row}
use Rattle.cat_sound.proofs.CopiedRows.{copied_fit}

-- ---- the rows that are read are those that the text holds

module _ (columns : List Column) (primary : List Bytes) where
  held_read : (n : ℕ) (lines : List Bytes) (rows : List Row) → rows_read columns [] primary n lines ≡ Ok rows → filter_map result_ok (map row_of lines) ≡ rows
  held_read n [] rows e = cc
  held_read n (line ∷ lines) rows e = by (row_of line) (rows_read columns [] primary (n + 1) lines) (held_read (n + 1) lines) e
    where
      whole : (fields : Row) (because : Option Cause) (later : Result (List Row) Cause) → ((rs : List Row) → later ≡ Ok rs → filter_map result_ok (map row_of lines) ≡ rs) → onto_rows (row_or fields because) later ≡ Ok rows → fields ∷ filter_map result_ok (map row_of lines) ≡ rows
      whole fields None (Ok rs) held h = let same : fields ∷ rs ≡ rows = cc in ap (λ (xs : List Row). fields ∷ xs) (held rs refl) ∙ same
      whole fields None (Err because) held h = absurd cc
      whole fields (Some because) later held h = absurd cc

      counted : (fields : Row) (b : Bool) (later : Result (List Row) Cause) → ((rs : List Row) → later ≡ Ok rs → filter_map result_ok (map row_of lines) ≡ rs) → onto_rows (cond {A = Result Row Cause} b (row_or fields (fields_cause primary n 1 columns fields)) (Err (cause.Fields n (length fields)))) later ≡ Ok rows → fields ∷ filter_map result_ok (map row_of lines) ≡ rows
      counted fields true later held h = whole fields (fields_cause primary n 1 columns fields) later held h
      counted fields false later held h = absurd cc

      by : (r : Result Row CopyFault) (later : Result (List Row) Cause) → ((rs : List Row) → later ≡ Ok rs → filter_map result_ok (map row_of lines) ≡ rs) → onto_rows (row_read columns [] primary n r) later ≡ Ok rows → cons_option (result_ok r) (filter_map result_ok (map row_of lines)) ≡ rows
      by (Err fault) later held h = absurd cc
      by (Ok fields) later held h = counted fields (length fields == length columns) later held h

  held_fit : (text : Bytes) (rows : List Row) → copied_rows columns [] primary text ≡ Ok rows → list_all (is_row columns) (rows_held text) ≡ true
  held_fit text rows e = subst (λ (rs : List Row). list_all (is_row columns) rs ≡ true) (sym (held_read 1 (data_lines text) rows e)) (copied_fit columns [] primary text rows e)

-- ---- COPY that isn't refused

-- what COPY does once the table is there
abbrev rest : QName → Bytes → List Column → Tree
rest q text columns =
    check (all_columns columns []) cause.WrongColumns
    (scan (class.Constraints q) (λ constraints.
    scan (class.Indexes q) (λ indexes.
    look (key.Rows q) (λ rows.
    rows_added q columns (by_name (filter_map unique_in (constraints ++ indexes))) (filter_map foreign_in constraints) (rows_in rows)
    (copied_rows columns [] (primary_columns constraints) text)))))

added : (named : Named) (q : QName) (text : Bytes) (columns : List Column) (primary : List Bytes) (us : List Unique) (fs : List Foreign) (old : List Row) (r : Result (List Row) Cause) → copied_rows columns [] primary text ≡ r → cause_of (outcome (rows_added q columns us fs old r) (seen named)) ≡ None → list_all (is_row columns) (rows_held text) ≡ true
added named q text columns primary us fs old (Err because) is e = absurd cc
added named q text columns primary us fs old (Ok rows) is e = held_fit columns primary text rows is

copied : (named : Named) (q : QName) (text : Bytes) (columns : List Column) → get named (key.Rel q) ≡ Some (value.Table columns) → refusal_of named q text ≡ None → list_all (is_row columns) (rows_held text) ≡ true
unfolding refusal_of
copied named q text columns is e =
    let here : cause_of (outcome (rest q text columns) (seen named)) ≡ None = subst (λ (o : Option Value). cause_of (outcome (if_table q (rest q text) o) (seen named)) ≡ None) is e in
    added named q text columns _ _ _ _ (copied_rows columns [] (primary_columns ((seen named).all (class.Constraints q))) text) refl here

-- rows that COPY would take for a table without rows
pub met_fit : (named : Named) (q : QName) (text : Bytes) (columns : List Column) (rows : List Row) → get named (key.Rel q) ≡ Some (value.Table columns) → get named (key.Rows q) ≡ Some (value.Rows rows) → table_cause named q text ≡ None → list_all (is_row columns) (rows_held text) ≡ true
unfolding with_rows
met_fit named q text columns rows is held e =
    let empty : emptied named q ≡ with_rows named q [] = ap (λ (o : Option Value). with_none named q (rows_there o)) held in
    let there : get (with_rows named q []) (key.Rel q) ≡ Some (value.Table columns) = get-insert key_cmp_total named (key.Rows q) (value.Rows []) (key.Rel q) ∙ is in
    copied (with_rows named q []) q text columns there (ap (λ (m : Named). refusal_of m q text) (sym empty) ∙ e)
