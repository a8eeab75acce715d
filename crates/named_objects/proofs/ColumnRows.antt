-- The rows of pg_attribute meet the table's conditions, where those of views do.
use Rattle.std.proofs.Common.{◌≡◌, ℕ, pos, true, false, not, ◌||◌, Option, Some, unwrap_or, refl, ap, sym, ◌∙◌}
use Rattle.std.specs.Ordering.{nat_cmp, eq_by_cmp}
use Rattle.std.specs.List.{AllByRecursion, filter}
use Rattle.cat_rows.specs.declared.catalogue.Catalogue.{Catalogue}
use Rattle.cat_rows.specs.declared.relations.AttributeRow.{AttributeRow}
use Rattle.cat_model.specs.declared.key.Key.TheVariants as key
use Rattle.cat_model.specs.declared.value.Value.TheVariants as value
use Rattle.cat_model.specs.declared.value.Column.{Column}
use Rattle.cat_model.specs.Values.{Named}
use Rattle.cat_names.specs.Kinds.{kind_of, is_table}
use Rattle.cat_book.specs.Leads.{has_columns, is_base_there}
use Rattle.cat_book.specs.Meets.{Meets}
use Rattle.cat_book.specs.Rules.{RowName, Place, name_cmp, place_cmp}
use Rattle.well_formed.specs.Agreeing.{is_type_named}
use Rattle.well_formed.specs.Columns.{is_column_number, is_column_there, column_rules}
use Rattle.cat_sound.specs.Asks.{column_asks, type_asks}
use Rattle.cat_sound.specs.Texts.{Texts}
use Rattle.cat_sound.specs.Sound.{IsMet, IsSound}
use Rattle.cat_sound.proofs.Lists.{of_member, flat-all}
use Rattle.named_tables.specs.Oids.{AreOids}
use Rattle.named_tables.specs.Standing.{AreRowsOf}
use Rattle.named_tables.proofs.Ties.{tie}
use Rattle.named_tables.proofs.Rows.{name_cmp-IsAntisymmetric, place_in, each_row, distinct_keys, no_keys, no_marks}
use Rattle.named_objects.specs.Oids.{ObjectOids, AreNumbers}
use Rattle.named_objects.specs.Relations.{NamedColumn, IsColumn, IsColumnRow}
use Rattle.named_objects.proofs.Columns.{is_of_table, one_column}
use Rattle.named_objects.proofs.Lookups.{AreLedTo, kind_found}
use Rattle.named_objects.proofs.Parted.{distinct_parts, each_part}
use Rattle.named_objects.proofs.Places.{place_cmp-IsAntisymmetric}
use Rattle.named_objects.proofs.TypeRows.{type_text_named, base_there}

abbrev name_key : AttributeRow → Option RowName
name_key a = Some (a.attrelid, 0, pos 0, a.attname)

abbrev place_key : AttributeRow → Option Place
place_key a = Some (a.attrelid, a.attnum)

module _ (texts : Texts) (named : Named) (sound : IsSound texts named) (oids : ObjectOids) (own : AreOids named oids.of) (numbers : AreNumbers named oids.number) (cat : Catalogue) (led : AreLedTo named oids.of cat) (are : AreRowsOf (IsColumn named) (IsColumnRow oids) (filter (is_of_table cat) cat.pg_attribute)) (views : Meets column_rules cat (filter (λ a. not (is_of_table cat a)) cat.pg_attribute)) where
  one_table : (t s : NamedColumn) → IsColumn named t → IsColumn named s → oids.of (key.Rel t.table) ≡ oids.of (key.Rel s.table) → t.table ≡ s.table
  one_table t s is_t is_s equal =
      let keys : key.Rel t.table ≡ key.Rel s.table = own.apart (key.Rel t.table) (key.Rel s.table) (value.Table t.columns) (value.Table s.columns) is_t.there is_s.there refl refl refl equal in
      cc

  same_name : (t s : NamedColumn) (a b : AttributeRow) (k l : RowName) → IsColumn named t → IsColumn named s → IsColumnRow oids t a → IsColumnRow oids s b → name_key a ≡ Some k → name_key b ≡ Some l → eq_by_cmp name_cmp l k ≡ true → t ≡ s
  same_name t s a b k l is_t is_s at_a at_b is_k is_l ties =
      let names : l ≡ k = tie name_cmp-IsAntisymmetric l k ties in
      let first : (a.attrelid, 0, pos 0, a.attname) ≡ k = ap (λ (o : Option RowName). unwrap_or o k) is_k in
      let second : (b.attrelid, 0, pos 0, b.attname) ≡ l = ap (λ (o : Option RowName). unwrap_or o l) is_l in
      let all = first ∙ sym names ∙ sym second in
      let tables = one_table t s is_t is_s (sym at_a.relation ∙ ap (λ (n : RowName). n.0) all ∙ at_b.relation) in
      let words : t.column.name ≡ s.column.name = sym at_a.name ∙ ap (λ (n : RowName). n.3) all ∙ at_b.name in
      one_column texts named sound oids own numbers cat led are t s is_t is_s tables (λ i. oids.number (tables i) (words i))

  same_place : (t s : NamedColumn) (a b : AttributeRow) (k l : Place) → IsColumn named t → IsColumn named s → IsColumnRow oids t a → IsColumnRow oids s b → place_key a ≡ Some k → place_key b ≡ Some l → eq_by_cmp place_cmp l k ≡ true → t ≡ s
  same_place t s a b k l is_t is_s at_a at_b is_k is_l ties =
      let places : l ≡ k = tie place_cmp-IsAntisymmetric l k ties in
      let first : (a.attrelid, a.attnum) ≡ k = ap (λ (o : Option Place). unwrap_or o k) is_k in
      let second : (b.attrelid, b.attnum) ≡ l = ap (λ (o : Option Place). unwrap_or o l) is_l in
      let all = first ∙ sym places ∙ sym second in
      let tables = one_table t s is_t is_s (sym at_a.relation ∙ ap (λ (n : Place). n.0) all ∙ at_b.relation) in
      one_column texts named sound oids own numbers cat led are t s is_t is_s tables (sym at_a.number ∙ ap (λ (n : Place). n.1) all ∙ at_b.number)

  -- rows of one relation are of tables, or aren't, together
  alike : (a b : AttributeRow) → a.attrelid ≡ b.attrelid → is_of_table cat a ≡ is_of_table cat b
  alike a b same = ap (λ (n : ℕ). is_table (kind_of cat.pg_class n)) same

  alike_names : (a b : AttributeRow) (k l : RowName) → name_key a ≡ Some k → name_key b ≡ Some l → eq_by_cmp name_cmp l k ≡ true → is_of_table cat a ≡ is_of_table cat b
  alike_names a b k l is_k is_l ties =
      let names : l ≡ k = tie name_cmp-IsAntisymmetric l k ties in
      let first : (a.attrelid, 0, pos 0, a.attname) ≡ k = ap (λ (o : Option RowName). unwrap_or o k) is_k in
      let second : (b.attrelid, 0, pos 0, b.attname) ≡ l = ap (λ (o : Option RowName). unwrap_or o l) is_l in
      alike a b (ap (λ (n : RowName). n.0) (first ∙ sym names ∙ sym second))

  alike_places : (a b : AttributeRow) (k l : Place) → place_key a ≡ Some k → place_key b ≡ Some l → eq_by_cmp place_cmp l k ≡ true → is_of_table cat a ≡ is_of_table cat b
  alike_places a b k l is_k is_l ties =
      let places : l ≡ k = tie place_cmp-IsAntisymmetric l k ties in
      let first : (a.attrelid, a.attnum) ≡ k = ap (λ (o : Option Place). unwrap_or o k) is_k in
      let second : (b.attrelid, b.attnum) ≡ l = ap (λ (o : Option Place). unwrap_or o l) is_l in
      alike a b (ap (λ (n : Place). n.0) (first ∙ sym places ∙ sym second))

  type_met : (t : NamedColumn) → IsColumn named t → AllByRecursion (IsMet named) (type_asks t.column.type_name t.column.resolved)
  type_met t is =
      of_member (λ (x : Column). AllByRecursion (IsMet named) (column_asks x)) t.columns (flat-all (IsMet named) column_asks t.columns (sound.each (key.Rel t.table) (value.Table t.columns) is.there).others.1.1.1.1) t.column (place_in t.columns t.place t.column is.at)

  there : (t : NamedColumn) (row : AttributeRow) → IsColumn named t → IsColumnRow oids t row → is_column_there cat row ≡ true
  there t row is at =
      let relation : has_columns (kind_of cat.pg_class row.attrelid) ≡ true = ap (λ (n : ℕ). has_columns (kind_of cat.pg_class n)) at.relation ∙ ap has_columns (kind_found texts named sound oids.of own cat led t.table (value.Table t.columns) is.there) in
      let base : is_base_there cat.pg_type row.atttypid ≡ true = ap (is_base_there cat.pg_type) at.type ∙ base_there texts named sound oids.of own cat led t.column.type_name t.column.resolved (type_met t is) in
      rw (relation, base) refl

  good : (t : NamedColumn) (row : AttributeRow) → IsColumn named t → IsColumnRow oids t row → (not (is_column_number row.attnum) || not (is_type_named cat row.atttypid row.typtext)) ≡ false
  good t row is at =
      let number : is_column_number row.attnum ≡ true = ap is_column_number at.number ∙ numbers.from_one t.table t.columns t.place t.column is.there is.at in
      let type : is_type_named cat row.atttypid row.typtext ≡ true = ap (λ (n : ℕ). is_type_named cat n row.typtext) at.type ∙ type_text_named texts named sound oids.of own cat led t.column.type_name t.column.resolved row.typtext at.type_text (type_met t is) in
      rw (number, type) refl

  pub columns_meet : Meets column_rules cat cat.pg_attribute
  columns_meet = record {
    oids = no_keys nat_cmp cat.pg_attribute;
    names = distinct_parts name_cmp name_key (is_of_table cat) cat.pg_attribute (distinct_keys (IsColumn named) (IsColumnRow oids) (filter (is_of_table cat) cat.pg_attribute) are name_cmp name_key same_name) views.names alike_names;
    places = distinct_parts place_cmp place_key (is_of_table cat) cat.pg_attribute (distinct_keys (IsColumn named) (IsColumnRow oids) (filter (is_of_table cat) cat.pg_attribute) are place_cmp place_key same_place) views.places alike_places;
    marks = no_marks cat.pg_attribute;
    objects = λ i row at. refl;
    there = each_part (λ row. not (is_column_there cat row) ≡ false) (is_of_table cat) cat.pg_attribute (each_row (IsColumn named) (IsColumnRow oids) (filter (is_of_table cat) cat.pg_attribute) are (λ row. not (is_column_there cat row) ≡ false) (λ t row is at. ap not (there t row is at))) views.there;
    texts = each_part (λ row. (not (is_column_number row.attnum) || not (is_type_named cat row.atttypid row.typtext)) ≡ false) (is_of_table cat) cat.pg_attribute (each_row (IsColumn named) (IsColumnRow oids) (filter (is_of_table cat) cat.pg_attribute) are (λ row. (not (is_column_number row.attnum) || not (is_type_named cat row.atttypid row.typtext)) ≡ false) good) views.texts;
    inside = λ i row at. refl;
    needed = refl;
  }
