-- The texts of the rows of tables hold rows of them.
use Rattle.std.proofs.Common.{◌≡◌, ℕ, ℤ, pos, Bool, true, false, not, cond, List, [], ◌∷◌, map, length, Option, Some, unwrap_or, Result, Ok, Err, refl, ap, sym, subst, ◌∙◌}
use Rattle.std.proofs.lemmas.Bool.{eqb-true}
use Rattle.std.proofs.lemmas.List.Elements.{All-from_recursion}
use Rattle.std.specs.Cmp.{first_so, second_so}
use Rattle.std.specs.FinMap.{get}
use Rattle.std.specs.List.{All, AllByRecursion, filter, filter_map, cons_option, list_all}
use Rattle.std.specs.Ordering.{int_cmp, is_le}
use Rattle.std.specs.Prelude.{◌==◌}
use Rattle.std.specs.Result.{is_ok, result_ok}
use Rattle.copy_text.specs.declared.fault.CopyFault.{CopyFault}
use Rattle.copy_text.specs.Lines.{data_lines}
use Rattle.copy_text.specs.Reading.{row_of}
use Rattle.copy_text.specs.Rows.{IsRow, spell_rows}
use Rattle.copy_text.proofs.LawLemmas.{row_found, can_be_written}
use Rattle.data_rows.specs.Rows.{rows_of}
use Rattle.data_rows.proofs.LineLemmas.{NoNewlines, data_lines-no_newline}
use Rattle.cat_rows.specs.declared.catalogue.Catalogue.{Catalogue}
use Rattle.cat_rows.specs.declared.notes.DependRow.{DependRow}
use Rattle.cat_rows.specs.declared.relations.ClassRow.{ClassRow}
use Rattle.cat_model.specs.declared.object.QName.{QName}
use Rattle.cat_model.specs.declared.key.Key.TheVariants as key
use Rattle.cat_model.specs.declared.value.Value.{Value}
use Rattle.cat_model.specs.declared.value.Value.TheVariants as value
use Rattle.cat_model.specs.declared.value.Column.{Column}
use Rattle.cat_model.specs.RowTexts.{rows_held}
use Rattle.cat_model.specs.Values.{Bytes, Named, Row}
use Rattle.cat_names.specs.DataSets.{TextsByOid}
use Rattle.cat_names.specs.Kinds.{is_table, relation_kind}
use Rattle.cat_naming.specs.Relations.{RowsByOid}
use Rattle.cat_sound.specs.Asked.{Asked, Passes, is_row}
use Rattle.cat_sound.specs.Sound.{IsSound}
use Rattle.cat_sound.specs.Texts.{Texts}
use Rattle.cat_sound.proofs.Changes.{value_met}
use Rattle.cat_sound.proofs.Lists.{IsIn, of_each, all-mapped}
use Rattle.named_tables.specs.Oids.{AreOids}
use Rattle.named_tables.proofs.Rows.{in_place}
use Rattle.entry_ids.specs.Oids.{ObjectOids, AreNumbers}
use Rattle.entry_ids.specs.Standing.{AllStandFor}
use Rattle.entry_ids.proofs.Found.{from_filter}
use Rattle.entry_ids.proofs.Led.{led_to}
use Rattle.entry_ids.proofs.Lookups.{AreLedTo, kind_at, kind_so}
use Rattle.oid_groups.specs.Orders.{placed, by_number}
use Rattle.table_rows.specs.Tables.{is_table_row, table_oids, column_count}
use Rattle.table_rows.specs.Values.{text_of}
use Rattle.whole_export.proofs.Widths.{width}

-- ---- rows that are read can be written

written_lines : (lines : List Bytes) → NoNewlines lines → AllByRecursion IsRow (filter_map result_ok (map row_of lines))
written_lines [] none = tt
written_lines (line ∷ lines) none = by (row_of line) refl (written_lines lines none.1)
  where
    by : (r : Result Row CopyFault) → row_of line ≡ r → AllByRecursion IsRow (filter_map result_ok (map row_of lines)) → AllByRecursion IsRow (cons_option (result_ok r) (filter_map result_ok (map row_of lines)))
    by (Ok row) is more = (can_be_written row line (row_found row line none.0 is), more)
    by (Err fault) is more = more

written : (text : Bytes) → All IsRow (rows_held text)
written text = All-from_recursion IsRow (rows_held text) (written_lines (data_lines text) (data_lines-no_newline text))

-- ---- what holds of each, by number

all_placed : {R : Type 0} (P : R → Type 0) (number : R → ℤ) (row : R) (rows : List R) → P row → AllByRecursion P rows → AllByRecursion P (placed number row rows)
unfolding placed
all_placed P number row [] first all = (first, tt)
all_placed {R = R} P number row (r ∷ rs) first all = by (is_le (int_cmp (number row) (number r))) (all_placed P number row rs first all.1)
  where
    by : (b : Bool) → AllByRecursion P (placed number row rs) → AllByRecursion P (cond b (row ∷ r ∷ rs) (r ∷ placed number row rs))
    by true more = (first, all)
    by false more = (all.0, more)

all_by_number : {R : Type 0} (P : R → Type 0) (number : R → ℤ) (rows : List R) → AllByRecursion P rows → AllByRecursion P (by_number number rows)
unfolding by_number
all_by_number P number [] all = tt
all_by_number P number (row ∷ rows) all = all_placed P number row (by_number number rows) all.0 (all_by_number P number rows all.1)

-- ---- rows of as many fields

fields : (columns : List Column) (rows : List Row) → list_all (is_row columns) rows ≡ true → AllByRecursion (λ (row : Row). length row ≡ length columns) rows
fields columns [] all = tt
fields columns (row ∷ rows) all = (
  eqb-true (length row) (length columns) (first_so (length row == length columns) (not (length row == 0)) (first_so (is_row columns row) (list_all (is_row columns) rows) all)),
  fields columns rows (second_so (is_row columns row) (list_all (is_row columns) rows) all),
)

-- rows that can be written are read as they are written
abbrev pub AreRead : Type 0
AreRead = (columns : ℕ) (rows : List Row) → All IsRow rows → All (λ row. length row ≡ columns) rows → rows_of columns (spell_rows rows) ≡ Ok rows

module _ (read : AreRead) (texts : Texts) (named : Named) (sound : IsSound texts named) (oids : ObjectOids) (own : AreOids named oids.of) (numbers : AreNumbers named oids.number) (current : Bytes) (depends : List DependRow) (cat : Catalogue) (rows : RowsByOid) (are : AllStandFor named oids current depends cat rows) (put : TextsByOid)
    (there : (q : QName) (held : List Row) → get named (key.Rows q) ≡ Some (value.Rows held) → (get put (oids.of (key.Rel q)) ≡ Some (spell_rows held)) × (rows_held (spell_rows held) ≡ held)) where
  abbrev HoldsRows : ℕ → Type 0
  HoldsRows oid = is_ok (rows_of (column_count cat oid) (text_of put oid)) ≡ true

  led : AreLedTo named oids.of cat
  led = led_to named oids current depends cat rows are

  -- a table has rows
  its_rows : (q : QName) (columns : List Column) → get named (key.Rel q) ≡ Some (value.Table columns) → (held : List Row) × (get named (key.Rows q) ≡ Some (value.Rows held))
  its_rows q columns is =
      let found = value_met named (key.Rows q, Asked.there) (sound.each (key.Rel q) (value.Table columns) is).others.1.0 in
      by found.0 found.1
    where
      by : (v : Value) → get named (key.Rows q) ≡ Some v → (held : List Row) × (get named (key.Rows q) ≡ Some (value.Rows held))
      by (value.Rows held) at = (held, at)
      by v at = elim (sound.each (key.Rows q) v at).own [ ]

  of_table : (q : QName) (columns : List Column) → get named (key.Rel q) ≡ Some (value.Table columns) → HoldsRows (oids.of (key.Rel q))
  of_table q columns is =
      let its = its_rows q columns is in
      let held = its.0 in
      let at = there q held its.1 in
      let fit : list_all (is_row columns) held ≡ true = subst (λ (o : Option Value). Passes o (Asked.holds held)) is (sound.each (key.Rows q) (value.Rows held) its.1).others.0 in
      ap (λ (n : ℕ). is_ok (rows_of n (text_of put (oids.of (key.Rel q))))) (width texts named sound oids own numbers cat led are.columns q columns is)
      ∙ ap (λ (o : Option Bytes). is_ok (rows_of (length columns) (unwrap_or o []))) at.0
      ∙ ap is_ok (read (length columns) held (subst (All IsRow) at.1 (written (spell_rows held))) (All-from_recursion (λ (row : Row). length row ≡ length columns) held (fields columns held fit)))

  of_row : (r : ClassRow) → IsIn r (filter is_table_row cat.pg_class) → HoldsRows r.oid
  unfolding is_table_row
  of_row r among =
      let inside = from_filter is_table_row cat.pg_class r among in
      let one = are.relations.only r (in_place cat.pg_class r inside.0) in
      let kind : relation_kind r.relkind ≡ kind_at one.0.relation = kind_so texts named sound oids.of own cat led one.0.path one.0.relation r one.2.kind in
      subst HoldsRows (sym one.2.oid) (by one.0.path one.0.relation one.1 (ap (λ k. is_table (Some k)) (sym kind) ∙ inside.1))
    where
      by : (q : QName) (v : Value) → get named (key.Rel q) ≡ Some v → is_table (Some (kind_at v)) ≡ true → HoldsRows (oids.of (key.Rel q))
      by q (value.Table columns) is table = of_table q columns is
      by q v is table = cc

  pub all_hold : All (λ oid. is_ok (rows_of (column_count cat oid) (text_of put oid)) ≡ true) (table_oids cat)
  unfolding table_oids
  all_hold =
      All-from_recursion HoldsRows (table_oids cat)
      (all_by_number HoldsRows (λ oid. pos oid) (map (λ row. row.oid) (filter is_table_row cat.pg_class))
      (all-mapped HoldsRows (λ (row : ClassRow). row.oid) (filter is_table_row cat.pg_class) (of_each (λ (row : ClassRow). HoldsRows row.oid) (filter is_table_row cat.pg_class) of_row)))
