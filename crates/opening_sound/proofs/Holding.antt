-- Texts that spell rows hold rows of their tables.
use Rattle.std.proofs.Common.{◌≡◌, ℕ, suc, pos, true, false, not, ◌||◌, List, [], ◌∷◌, map, length, Option, Some, None, Result, Ok, Err, refl, sym, ap, subst, ◌∙◌, inl, inr, arith}
use Rattle.std.proofs.lemmas.Bool.{and_parts, or_parts}
use Rattle.std.proofs.lemmas.List.Elements.{All-from_recursion}
use Rattle.std.specs.FinMap.{get}
use Rattle.std.specs.List.{All, AllByRecursion, filter, filter_map, list_all, cons_option}
use Rattle.std.specs.Option.{option_map, option_or}
use Rattle.std.specs.Prelude.{◌==◌}
use Rattle.std.specs.Result.{result_ok}
use Rattle.copy_text.specs.declared.fault.CopyFault.{CopyFault}
use Rattle.copy_text.specs.Lines.{data_lines}
use Rattle.copy_text.specs.Reading.{row_of}
use Rattle.copy_text.specs.Rows.{Field, IsRow, spell_rows}
use Rattle.copy_text.proofs.LawLemmas.{row_found, can_be_written}
use Rattle.data_rows.specs.declared.fault.RowsFault.{RowsFault}
use Rattle.data_rows.specs.Rows.{rows_of}
use Rattle.data_rows.proofs.LineLemmas.{NoNewlines, data_lines-no_newline}
use Rattle.cat_rows.specs.declared.catalogue.Catalogue.{Catalogue}
use Rattle.cat_rows.specs.declared.relations.AttributeRow.{AttributeRow}
use Rattle.cat_rows.specs.declared.relations.ClassRow.{ClassRow}
use Rattle.cat_model.specs.declared.key.Key.TheVariants as key
use Rattle.cat_model.specs.declared.value.Column.{Column}
use Rattle.cat_model.specs.declared.value.Value.{Value}
use Rattle.cat_model.specs.declared.value.Value.TheVariants as value
use Rattle.cat_model.specs.RowTexts.{rows_held}
use Rattle.cat_model.specs.Values.{Bytes, Row, Named}
use Rattle.cat_names.specs.DataSets.{TextsByOid}
use Rattle.cat_names.specs.declared.relations.RelationKind.TheVariants.{Table}
use Rattle.cat_names.specs.Kinds.{relation_kind, kind_of}
use Rattle.cat_names.specs.Lookups.{same_oid}
use Rattle.cat_book.specs.Leads.{has_columns, is_base_there}
use Rattle.opening_laws.specs.Entries.{catalogue_named}
use Rattle.opening_laws.specs.Relations.{column_with, column_of, columns_of}
use Rattle.opening_laws.specs.Texts.{rows_by_oid}
use Rattle.cat_sound.specs.Asked.{Asked, Passes, is_row}
use Rattle.cat_sound.specs.Sound.{IsSound}
use Rattle.cat_sound.specs.Texts.{Texts}
use Rattle.cat_sound.proofs.Lists.{IsIn}
use Rattle.oid_groups.specs.Orders.{by_number}
use Rattle.opening_laws.proofs.Apart.{sorted_in, length_sorted, counted}
use Rattle.opening_laws.proofs.Classes.{not_false, table_kind, RelationAt, path_of_class, one_class, relation_at, relation_there, entry_there}
use Rattle.opening_laws.proofs.Types.{IsTypedAs, typed_as}
use Rattle.sound_rows.specs.Rows.{IsAmong}
use Rattle.sound_rows.proofs.Among.{each_in, place_in, of_filter}
use Rattle.table_rows.specs.Tables.{is_table_row, table_oids, column_count}
use Rattle.table_rows.specs.Values.{text_of, fault_in, first_fault, values_fault}
use Rattle.text_tables.specs.Agreeing.{is_type_named}
use Rattle.text_tables.specs.Columns.{is_column_there, is_column_number}
use Rattle.named_objects.specs.Formed.{IsWellFormed}
use Rattle.opening_sound.specs.Export.{AreSpelled}

-- rows that can be written, with a field for each column, are read as they are spelled
abbrev pub AreReadAgain : Type 0
AreReadAgain = (columns : ℕ) (rows : List (List Field)) → All IsRow rows → All (λ row. length row ≡ columns) rows → rows_of columns (spell_rows rows) ≡ Ok rows

-- ---- rows that a text holds can be written

lines_written : (ls : List Bytes) → NoNewlines ls → AllByRecursion IsRow (filter_map result_ok (map row_of ls))
lines_written [] none = tt
lines_written (line ∷ ls) none = by (row_of line) refl (lines_written ls none.1)
  where
    by : (r : Result Row CopyFault) → row_of line ≡ r → AllByRecursion IsRow (filter_map result_ok (map row_of ls)) → AllByRecursion IsRow (cons_option (result_ok r) (filter_map result_ok (map row_of ls)))
    by (Ok row) is more = (can_be_written row line (row_found row line none.0 is), more)
    by (Err fault) is more = more

held_written : (text : Bytes) → All IsRow (rows_held text)
held_written text = All-from_recursion IsRow (rows_held text) (lines_written (data_lines text) (data_lines-no_newline text))

-- ---- rows have a field for each column

same_of : (m n : ℕ) → (m == n) ≡ true → m ≡ n
same_of m n e = grind arith

each_fits : (columns : List Column) (rows : List Row) → list_all (is_row columns) rows ≡ true → AllByRecursion (λ (row : Row). length row ≡ length columns) rows
each_fits columns [] e = tt
each_fits columns (row ∷ rows) e =
    let parts = and_parts (is_row columns row) (list_all (is_row columns) rows) e in
    let one = and_parts (length row == length columns) (not (length row == 0)) parts.0 in
    (same_of (length row) (length columns) one.0, each_fits columns rows parts.1)

-- ---- one for each

length_all : {A B : Type 0} (f : A → Option B) (xs : List A) → ((x : A) → IsIn x xs → (y : B) × (f x ≡ Some y)) → length (filter_map f xs) ≡ length xs
length_all f [] each = refl
length_all {A} {B} f (x ∷ xs) each = by (f x) (each x (inl refl)).0 (each x (inl refl)).1 (length_all f xs (λ y among. each y (inr among)))
  where
    by : (o : Option B) (y : B) → o ≡ Some y → length (filter_map f xs) ≡ length xs → length (cons_option o (filter_map f xs)) ≡ suc (length xs)
    by None y is more = absurd cc
    by (Some z) y is more = ap (λ (n : ℕ). suc n) more

module _ (texts : Texts) (cat : Catalogue) (well : IsWellFormed cat) (made : TextsByOid) (sound : IsSound texts (catalogue_named cat (rows_by_oid made))) (spelled : AreSpelled made) where
  -- ---- the columns of a table

  attribute_typed : (a : AttributeRow) → IsAmong a cat.pg_attribute → IsTypedAs cat well a.atttypid a.typtext
  attribute_typed a among =
      let there = not_false _ (each_in (λ (r : AttributeRow). not (is_column_there cat r) ≡ false) cat.pg_attribute well.columns.there a among) in
      let good = or_parts (not (is_column_number a.attnum)) (not (is_type_named cat a.atttypid a.typtext))
      (each_in (λ (r : AttributeRow). (not (is_column_number r.attnum) || not (is_type_named cat r.atttypid r.typtext)) ≡ false) cat.pg_attribute well.columns.texts a among) in
      typed_as cat well a.atttypid a.typtext (and_parts (has_columns (kind_of cat.pg_class a.attrelid)) (is_base_there cat.pg_type a.atttypid) there).1 (not_false _ good.1)

  columns_counted : (oid : ℕ) → length (columns_of cat oid) ≡ column_count cat oid
  columns_counted oid =
      let own : List AttributeRow = filter (λ a. same_oid oid a.attrelid) cat.pg_attribute in
      length_all (column_of cat) (by_number (λ (a : AttributeRow). a.attnum) own) (λ a among.
      let kept = of_filter (λ (r : AttributeRow). same_oid oid r.attrelid) cat.pg_attribute a (sorted_in (λ (r : AttributeRow). r.attnum) own a among) in
      let type = attribute_typed a (place_in cat.pg_attribute a kept.0) in
      (column_with a (type.name, type.end), ap (option_map (column_with a)) type.is))
      ∙ length_sorted (λ (a : AttributeRow). a.attnum) own
      ∙ sym (counted (λ (a : AttributeRow). a.attrelid) cat.pg_attribute oid)

  -- ---- the rows of a table

  abbrev named : Named
  named = catalogue_named cat (rows_by_oid made)

  held_fit : (c : ClassRow) → IsAmong c cat.pg_class → relation_kind c.relkind ≡ Table → list_all (is_row (columns_of cat c.oid)) (rows_by_oid made c.oid) ≡ true
  held_fit c among table =
      let rows = rows_by_oid made in
      let q = path_of_class cat well c among in
      let rel = relation_there cat well rows c among q.0 q.1 in
      let rel_is : value.Table (columns_of cat c.oid) ≡ rel.value = subst (λ k. RelationAt cat well c k rel.value) table (relation_at cat well rows c among q.0 q.1 rel.value rel.from) in
      let held = entry_there cat well rows c among q.0 q.1 Table table (key.Rows q.0, value.Rows (rows c.oid)) (inr (inl refl)) in
      let same : held.from.row ≡ c = one_class cat well q.0 held.from.row c held.from.among among held.from.path q.1 in
      let held_is : value.Rows (rows c.oid) ≡ held.value = ap (λ (r : ClassRow). value.Rows (rows r.oid)) (sym same) ∙ held.from.is.has in
      let at = sound.each (key.Rows q.0) (value.Rows (rows c.oid)) (held.is ∙ ap (λ (v : Value). Some v) (sym held_is)) in
      let there : get named (key.Rel q.0) ≡ Some (value.Table (columns_of cat c.oid)) = rel.is ∙ ap (λ (v : Value). Some v) (sym rel_is) in
      subst (λ (o : Option Value). Passes o (Asked.holds (rows c.oid))) there at.others.0

  module _ (again : AreReadAgain) where
    held_read : (c : ClassRow) → IsAmong c cat.pg_class → relation_kind c.relkind ≡ Table → rows_of (column_count cat c.oid) (text_of made c.oid) ≡ Ok (rows_by_oid made c.oid)
    held_read c among table =
        let rows = rows_by_oid made c.oid in
        let fit = All-from_recursion (λ (row : Row). length row ≡ length (columns_of cat c.oid)) rows (each_fits (columns_of cat c.oid) rows (held_fit c among table)) in
        ap (rows_of (column_count cat c.oid)) (sym (spelled c.oid))
        ∙ ap (λ (n : ℕ). rows_of n (spell_rows rows)) (sym (columns_counted c.oid))
        ∙ again (length (columns_of cat c.oid)) rows (held_written (text_of made c.oid)) fit

    -- ---- all tables

    no_fault : (oids : List ℕ) → ((oid : ℕ) → IsIn oid oids → (rows : List (List Field)) × (rows_of (column_count cat oid) (text_of made oid) ≡ Ok rows)) → first_fault (column_count cat) (text_of made) oids ≡ None
    unfolding first_fault
    no_fault [] each = refl
    no_fault (oid ∷ oids) each =
        ap (λ (r : Result (List (List Field)) RowsFault). option_or (fault_in oid r) (first_fault (column_count cat) (text_of made) oids)) (each oid (inl refl)).1
        ∙ no_fault oids (λ n among. each n (inr among))

    mapped_in : {A B : Type 0} (f : A → B) (xs : List A) (y : B) → IsIn y (map f xs) → (x : A) × IsIn x xs × (f x ≡ y)
    mapped_in f [] y among = elim among [ ]
    mapped_in f (x ∷ xs) y (inl same) = (x, inl refl, same)
    mapped_in f (x ∷ xs) y (inr later) = let found = mapped_in f xs y later in (found.0, inr found.1, found.2)

    table_read : (oid : ℕ) → IsIn oid (table_oids cat) → (rows : List (List Field)) × (rows_of (column_count cat oid) (text_of made oid) ≡ Ok rows)
    unfolding table_oids is_table_row
    table_read oid among =
        let tables : List ClassRow = filter is_table_row cat.pg_class in
        let found = mapped_in (λ (r : ClassRow). r.oid) tables oid (sorted_in (λ n. pos n) (map (λ (r : ClassRow). r.oid) tables) oid among) in
        let kept = of_filter is_table_row cat.pg_class found.0 found.1 in
        let read = held_read found.0 (place_in cat.pg_class found.0 kept.0) (table_kind (relation_kind found.0.relkind) kept.1) in
        subst (λ (n : ℕ). (rows : List (List Field)) × (rows_of (column_count cat n) (text_of made n) ≡ Ok rows)) found.2 (rows_by_oid made found.0.oid, read)

    pub hold_rows : values_fault cat made ≡ None
    unfolding values_fault
    hold_rows = no_fault (table_oids cat) table_read
