-- Columns of tables: what is asked for is one, it has a row, and its number leads to its name.
use Rattle.std.proofs.Common.{◌≡◌, ℕ, Bool, true, ◌&&◌, List, [], ◌∷◌, Some, option_map, refl, ap, sym, subst, ◌∙◌, ◌⊎◌, ◌<◌, ℤ, inl, inr, true≢false}
use Rattle.std.proofs.lemmas.Bool.Decides.{Decides-int_eq}
use Rattle.std.specs.declared.cmp.Ordering.TheVariants.{Less}
use Rattle.std.specs.Ordering.{int_eq, eq_by_cmp, int_cmp, is_lt}
use Rattle.std.specs.Cmp.{nat_cmp_total, int_cmp_total, tied_itself, first_so, second_so}
use Rattle.std.specs.Cmp.Lexicographic.{nat_list_cmp_total}
use Rattle.std.specs.FinMap.{get, nat_cmp-IsAntisymmetric}
use Rattle.std.specs.List.{find, filter, slice_get, list_all}
use Rattle.cat_rows.specs.declared.catalogue.Catalogue.{Catalogue}
use Rattle.cat_rows.specs.declared.relations.AttributeRow.{AttributeRow}
use Rattle.cat_model.specs.declared.object.QName.{QName}
use Rattle.cat_model.specs.declared.key.Key.TheVariants as key
use Rattle.cat_model.specs.declared.value.Value.{Value}
use Rattle.cat_model.specs.declared.value.Value.TheVariants as value
use Rattle.cat_model.specs.declared.value.Column.{Column}
use Rattle.cat_model.specs.Lexemes.{same_text}
use Rattle.cat_model.specs.Tables.{column_there, columns_there, distinct}
use Rattle.cat_model.specs.Values.{Bytes, Named}
use Rattle.cat_model.proofs.MarkLaws.{same_text-equal}
use Rattle.cat_names.specs.Kinds.{kind_of, is_table}
use Rattle.cat_names.specs.Lookups.{same_oid}
use Rattle.cat_book.specs.Leads as leads
use Rattle.cat_book.specs.Leads.{has_number, numbered, has_column, column_cmp}
use Rattle.cat_book.specs.Rules.{Place, place_cmp}
use Rattle.cat_naming.specs.Found.{column_name}
use Rattle.well_formed.specs.Indexes.{are_columns}
use Rattle.cat_sound.specs.Asked.{Asked, Meets}
use Rattle.cat_sound.specs.Texts.{Texts}
use Rattle.cat_sound.specs.Sound.{IsMet, IsSound}
use Rattle.cat_sound.proofs.Changes.{value_met}
use Rattle.cat_sound.proofs.Lists.{IsIn}
use Rattle.named_tables.specs.Oids.{AreOids}
use Rattle.named_tables.specs.Standing.{IsAmong, AreRowsOf}
use Rattle.named_tables.proofs.Owned.{met_by}
use Rattle.named_tables.proofs.Ties.{tie}
use Rattle.named_tables.proofs.Rows.{in_place, among_in}
use Rattle.named_objects.specs.Oids.{ObjectOids, AreNumbers}
use Rattle.named_objects.specs.Relations.{NamedColumn, IsColumn, IsColumnRow}
use Rattle.named_objects.proofs.Found.{found_in, has_mapped, any_place, tested_weaker, in_filter, from_filter, one_row, three_ways}
use Rattle.named_objects.proofs.Lookups.{AreLedTo, has_tie, kind_found}

-- a column of a table by its name
pub record ColumnOf (named : Named) (q : QName) (name : Bytes) : Type 0 where
  pub columns : List Column
  pub place : ℕ
  pub column : Column
  pub there : get named (key.Rel q) ≡ Some (value.Table columns)
  pub at : slice_get columns place ≡ Some column
  pub named_so : column.name ≡ name

-- what has columns is a table
columns_only : (v : Value) (names : List Bytes) → Meets (Asked.has_columns names) v → (columns : List Column) × (v ≡ value.Table columns) × (columns_there columns names ≡ true)
columns_only (value.Table columns) names met = (columns, refl, met)
columns_only v names met = elim met [ ]

pub column_of : (named : Named) (q : QName) (name : Bytes) → IsMet named (key.Rel q, Asked.has_columns (name ∷ [])) → ColumnOf named q name
column_of named q name met =
    let found = value_met named (key.Rel q, Asked.has_columns (name ∷ [])) met in
    let table = columns_only found.0 (name ∷ []) (met_by named (key.Rel q, Asked.has_columns (name ∷ [])) found.0 found.1 met) in
    let all : list_all (column_there table.0) (name ∷ []) ≡ true = first_so (list_all (column_there table.0) (name ∷ [])) (distinct (name ∷ [])) table.2 in
    let one : column_there table.0 name ≡ true = first_so (column_there table.0 name) true all in
    let at = any_place (λ (c : Column). same_text name c.name) table.0 one in
    record { columns = table.0; place = at.0; column = at.1; there = found.1 ∙ ap Some table.1; at = at.2; named_so = sym (same_text-equal name at.1.name at.3) }

name_itself : (p : ℕ × Bytes) → eq_by_cmp column_cmp p p ≡ true
name_itself p = rw (tied_itself nat_cmp_total p.0, tied_itself nat_list_cmp_total p.1) refl

-- the columns that a table must have
pub table_met : (named : Named) (q : QName) (names : List Bytes) → IsMet named (key.Rel q, Asked.has_columns names) → (columns : List Column) × (get named (key.Rel q) ≡ Some (value.Table columns))
table_met named q names met =
    let found = value_met named (key.Rel q, Asked.has_columns names) met in
    let table = columns_only found.0 names (met_by named (key.Rel q, Asked.has_columns names) found.0 found.1 met) in
    (table.0, found.1 ∙ ap Some table.1)

abbrev pub is_of_table : Catalogue → AttributeRow → Bool
is_of_table cat a = is_table (kind_of cat.pg_class a.attrelid)

place_itself : (p : Place) → eq_by_cmp place_cmp p p ≡ true
place_itself p = rw (tied_itself nat_cmp_total p.0, tied_itself int_cmp_total p.1) refl

module _ (texts : Texts) (named : Named) (sound : IsSound texts named) (oids : ObjectOids) (own : AreOids named oids.of) (numbers : AreNumbers named oids.number) (cat : Catalogue) (led : AreLedTo named oids.of cat) (are : AreRowsOf (IsColumn named) (IsColumnRow oids) (filter (is_of_table cat) cat.pg_attribute)) where
  abbrev thing_of : (q : QName) (name : Bytes) → ColumnOf named q name → NamedColumn
  thing_of q name c = record { table = q; columns = c.columns; place = c.place; column = c.column }

  is_thing : (q : QName) (name : Bytes) (c : ColumnOf named q name) → IsColumn named (thing_of q name c)
  is_thing q name c = record { there = c.there; at = c.at }

  -- two places of a table don't have one number
  place_apart : (q : QName) (columns : List Column) (i j : ℕ) (c d : Column) → get named (key.Rel q) ≡ Some (value.Table columns) → slice_get columns i ≡ Some c → slice_get columns j ≡ Some d → oids.number q c.name ≡ oids.number q d.name → i ≡ j
  place_apart q columns i j c d is at_i at_j same = by (three_ways i j)
    where
      no_less : (m n : ℤ) → m ≡ n → int_cmp m n ≡ Less → ⊥
      no_less m n e less = true≢false (sym (ap is_lt less) ∙ ap is_lt (ap (int_cmp m) (sym e) ∙ tied_itself int_cmp_total m))

      by : (i < j) ⊎ ((j < i) ⊎ (i ≡ j)) → i ≡ j
      by (inl below) = absurd (no_less (oids.number q c.name) (oids.number q d.name) same (numbers.rises q columns i j c d is below at_i at_j))
      by (inr (inl below)) = absurd (no_less (oids.number q d.name) (oids.number q c.name) (sym same) (numbers.rises q columns j i d c is below at_j at_i))
      by (inr (inr e)) = e

  -- columns of a table and of one number are one
  pub one_column : (t s : NamedColumn) → IsColumn named t → IsColumn named s → t.table ≡ s.table → oids.number t.table t.column.name ≡ oids.number s.table s.column.name → t ≡ s
  one_column t s is_t is_s tables same =
      let lists : Some (value.Table t.columns) ≡ Some (value.Table s.columns) = sym is_t.there ∙ ap (λ (q : QName). get named (key.Rel q)) tables ∙ is_s.there in
      let columns : t.columns ≡ s.columns = cc in
      let at_s : slice_get t.columns s.place ≡ Some s.column = ap (λ (cs : List Column). slice_get cs s.place) columns ∙ is_s.at in
      let places : t.place ≡ s.place = place_apart t.table t.columns t.place s.place t.column s.column is_t.there is_t.at at_s (same ∙ ap (λ (q : QName). oids.number q s.column.name) (sym tables)) in
      let both : Some t.column ≡ Some s.column = sym is_t.at ∙ ap (slice_get t.columns) places ∙ at_s in
      let column : t.column ≡ s.column = cc in
      λ i. record { table = tables i; columns = columns i; place = places i; column = column i }

  pub one_number : (q : QName) (a b : Bytes) → ColumnOf named q a → ColumnOf named q b → oids.number q a ≡ oids.number q b → a ≡ b
  one_number q a b c d same =
      let things = one_column (thing_of q a c) (thing_of q b d) (is_thing q a c) (is_thing q b d) refl (ap (oids.number q) c.named_so ∙ same ∙ ap (oids.number q) (sym d.named_so)) in
      sym c.named_so ∙ ap (λ (t : NamedColumn). t.column.name) things ∙ d.named_so

  pub record FoundColumn (q : QName) (name : Bytes) : Type 0 where
    pub row : AttributeRow
    pub among : IsIn row cat.pg_attribute
    pub relation : row.attrelid ≡ oids.of (key.Rel q)
    pub number : row.attnum ≡ oids.number q name
    pub named_so : row.attname ≡ name
    pub found : find (λ a. same_oid (oids.of (key.Rel q)) a.attrelid && int_eq (oids.number q name) a.attnum) cat.pg_attribute ≡ Some row

  pub column_found : (q : QName) (name : Bytes) → ColumnOf named q name → FoundColumn q name
  column_found q name c =
      let thing = thing_of q name c in
      let at = are.each thing (is_thing q name c) in
      let number : at.0.attnum ≡ oids.number q name = at.2.number ∙ ap (oids.number q) c.named_so in
      let inside = from_filter (is_of_table cat) cat.pg_attribute at.0 (among_in (filter (is_of_table cat) cat.pg_attribute) at.0 at.1) in
      record {
        row = at.0;
        among = inside.0;
        relation = at.2.relation;
        number = number;
        named_so = at.2.name ∙ c.named_so;
        found = found_in (λ (a : AttributeRow). same_oid (oids.of (key.Rel q)) a.attrelid && int_eq (oids.number q name) a.attnum) cat.pg_attribute at.0 inside.0
            (passes at.0 at.2.relation number)
            (λ r among e. only (thing_of q name c) (is_thing q name c) refl (ap (oids.number q) c.named_so) at.0 at.1 at.2 r among e);
      }
    where
      passes : (r : AttributeRow) → r.attrelid ≡ oids.of (key.Rel q) → r.attnum ≡ oids.number q name → same_oid (oids.of (key.Rel q)) r.attrelid && int_eq (oids.number q name) r.attnum ≡ true
      passes r relation number = rw (has_tie (oids.of (key.Rel q)) r.attrelid (sym relation), (Decides-int_eq (oids.number q name) r.attnum).1 (sym number)) refl

      only : (t : NamedColumn) → IsColumn named t → t.table ≡ q → oids.number q t.column.name ≡ oids.number q name → (row : AttributeRow) → IsAmong (filter (is_of_table cat) cat.pg_attribute) row → IsColumnRow oids t row → (r : AttributeRow) → IsIn r cat.pg_attribute → same_oid (oids.of (key.Rel q)) r.attrelid && int_eq (oids.number q name) r.attnum ≡ true → r ≡ row
      only t is_t table same row at says r among e =
          let relation : oids.of (key.Rel q) ≡ r.attrelid = tie nat_cmp-IsAntisymmetric (oids.of (key.Rel q)) r.attrelid (first_so (same_oid (oids.of (key.Rel q)) r.attrelid) (int_eq (oids.number q name) r.attnum) e) in
          let number : oids.number q name ≡ r.attnum = (Decides-int_eq (oids.number q name) r.attnum).0 (second_so (same_oid (oids.of (key.Rel q)) r.attrelid) (int_eq (oids.number q name) r.attnum) e) in
          let there : get named (key.Rel q) ≡ Some (value.Table t.columns) = ap (λ (p : QName). get named (key.Rel p)) (sym table) ∙ is_t.there in
          let of_table : is_of_table cat r ≡ true = ap (λ (n : ℕ). is_table (kind_of cat.pg_class n)) (sym relation) ∙ ap is_table (kind_found texts named sound oids.of own cat led q (value.Table t.columns) there) in
          let place = in_place (filter (is_of_table cat) cat.pg_attribute) r (in_filter (is_of_table cat) cat.pg_attribute r among of_table) in
          let one = are.only r place in
          let equal : oids.of (key.Rel one.0.table) ≡ oids.of (key.Rel q) = sym (relation ∙ one.2.relation) in
          let keys : key.Rel one.0.table ≡ key.Rel q = own.apart (key.Rel one.0.table) (key.Rel q) (value.Table one.0.columns) (value.Table t.columns) one.1.there there refl refl refl equal in
          let tables : one.0.table ≡ q = cc in
          let things : one.0 ≡ t = one_column one.0 t one.1 is_t (tables ∙ sym table) (sym (number ∙ one.2.number) ∙ sym same ∙ ap (λ (p : QName). oids.number p t.column.name) (sym table)) in
          one_row (IsColumn named) (IsColumnRow oids) (filter (is_of_table cat) cat.pg_attribute) are t r row place at (subst (λ (s : NamedColumn). IsColumnRow oids s r) things one.2) says

  pub column_name_found : (q : QName) (name : Bytes) → ColumnOf named q name → column_name cat (oids.of (key.Rel q)) (oids.number q name) ≡ Some name
  column_name_found q name c =
      let at = column_found q name c in
      ap (option_map (λ (a : AttributeRow). a.attname)) at.found ∙ ap Some at.named_so

  pub has_number_found : (q : QName) (name : Bytes) → ColumnOf named q name → has_number cat (oids.of (key.Rel q)) (oids.number q name) ≡ true
  has_number_found q name c =
      let at = column_found q name c in
      (λ i. has_number cat (sym at.relation i) (sym at.number i)) ∙ has_mapped place_cmp numbered cat.pg_attribute at.row (place_itself (numbered at.row)) at.among

  -- a column by its name, and names of columns
  pub has_column_found : (q : QName) (name : Bytes) → ColumnOf named q name → has_column cat (oids.of (key.Rel q)) name ≡ true
  has_column_found q name c =
      let at = column_found q name c in
      (λ i. has_column cat (sym at.relation i) (sym at.named_so i)) ∙ has_mapped column_cmp leads.named cat.pg_attribute at.row (name_itself (leads.named at.row)) at.among

  pub are_columns_found : (q : QName) (names : List Bytes) → IsMet named (key.Rel q, Asked.has_columns names) → are_columns cat (oids.of (key.Rel q)) (Some names) ≡ true
  are_columns_found q names met =
      let found = value_met named (key.Rel q, Asked.has_columns names) met in
      let table = columns_only found.0 names (met_by named (key.Rel q, Asked.has_columns names) found.0 found.1 met) in
      let all : list_all (has_column cat (oids.of (key.Rel q))) names ≡ true = tested_weaker (column_there table.0) (has_column cat (oids.of (key.Rel q))) (λ name there. step table.0 (found.1 ∙ ap Some table.1) name there) names (first_so (list_all (column_there table.0) names) (distinct names) table.2) in
      rw (all, second_so (list_all (column_there table.0) names) (distinct names) table.2) refl
    where
      step : (columns : List Column) → get named (key.Rel q) ≡ Some (value.Table columns) → (name : Bytes) → column_there columns name ≡ true → has_column cat (oids.of (key.Rel q)) name ≡ true
      step columns is name there =
          let at = any_place (λ (c : Column). same_text name c.name) columns there in
          has_column_found q name (record { columns = columns; place = at.0; column = at.1; there = is; at = at.2; named_so = sym (same_text-equal name at.1.name at.3) })
