-- The rows of pg_attrdef: they meet the table's conditions, and stand for the defaults of columns.
use Rattle.std.proofs.Common.{◌≡◌, ℕ, true, false, not, ◌&&◌, List, [], ◌∷◌, Option, Some, None, is_some, unwrap_or, refl, ap, sym, subst, ◌∙◌, inl, if◌then◌else◌}
use Rattle.std.specs.Ordering.{nat_cmp, eq_by_cmp}
use Rattle.std.specs.FinMap.{get}
use Rattle.std.specs.List.{AllByRecursion, flat_map, filter}
use Rattle.cat_rows.specs.declared.catalogue.Catalogue.{Catalogue}
use Rattle.cat_rows.specs.declared.relations.AttrdefRow.{AttrdefRow}
use Rattle.cat_model.specs.declared.object.QName.{QName}
use Rattle.cat_model.specs.declared.key.Key.{Key}
use Rattle.cat_model.specs.declared.key.Key.TheVariants as key
use Rattle.cat_model.specs.declared.value.Value.{Value}
use Rattle.cat_model.specs.declared.value.Value.TheVariants as value
use Rattle.cat_model.specs.declared.words.What.TheVariants as what
use Rattle.cat_model.specs.References.{expression_references}
use Rattle.cat_model.specs.Values.{Bytes, Named}
use Rattle.cat_names.specs.declared.relations.RelationKind.{RelationKind}
use Rattle.cat_names.specs.Kinds.{kind_of, is_view}
use Rattle.cat_names.specs.Lookups.{is_no_oid}
use Rattle.cat_names.specs.Naming.{Entry, under}
use Rattle.cat_book.specs.Leads.{has_columns, has_number}
use Rattle.cat_book.specs.Meets.{Meets}
use Rattle.cat_book.specs.Paths.{class_path_of}
use Rattle.cat_book.specs.Rules.{RowName, name_cmp, place_cmp}
use Rattle.cat_naming.specs.Found.{column_name}
use Rattle.row_texts.specs.DefaultTexts.{default_said, is_default}
use Rattle.well_formed.specs.Agreeing.{are_met, is_met_default}
use Rattle.well_formed.specs.Columns.{is_default_there, default_left_out, default_rules}
use Rattle.cat_naming.specs.Types.{under_path}
use Rattle.cat_naming.specs.Relations.{default_entries}
use Rattle.cat_sound.specs.Texts.{Texts}
use Rattle.cat_sound.specs.Sound.{IsSound}
use Rattle.cat_sound.proofs.Lists.{IsIn}
use Rattle.named_tables.specs.Oids.{AreOids}
use Rattle.named_tables.specs.Standing.{AreRowsOf}
use Rattle.named_tables.proofs.Ties.{tie}
use Rattle.named_tables.proofs.Rows.{name_cmp-IsAntisymmetric, one_oid, each_row, distinct_keys, no_keys, no_marks}
use Rattle.named_tables.proofs.Entries.{AreEntries, IsHeld, rows_give}
use Rattle.named_objects.specs.Oids.{ObjectOids, AreNumbers}
use Rattle.named_objects.specs.Relations.{IsColumn, IsColumnRow, NamedDefault, IsDefault, IsDefaultRow}
use Rattle.named_objects.specs.Kinds.{of_defaults}
use Rattle.named_objects.proofs.Lookups.{AreLedTo, class_path_found, kind_found, references_met}
use Rattle.named_objects.proofs.Columns.{ColumnOf, column_of, is_of_table, one_number, column_name_found, has_number_found}

pub is_default_said : (text said : Bytes) → default_said text ≡ Some said → is_default text ≡ true
unfolding is_default
is_default_said text said e = ap is_some e

module _ (texts : Texts) (named : Named) (sound : IsSound texts named) (oids : ObjectOids) (own : AreOids named oids.of) (numbers : AreNumbers named oids.number) (cat : Catalogue) (led : AreLedTo named oids.of cat) (columns : AreRowsOf (IsColumn named) (IsColumnRow oids) (filter (is_of_table cat) cat.pg_attribute)) (are : AreRowsOf (IsDefault named) (IsDefaultRow oids) cat.pg_attrdef) where
  same_default : (t s : NamedDefault) → IsDefault named t → IsDefault named s → t.table ≡ s.table → t.column ≡ s.column → t ≡ s
  same_default t s is_t is_s tables names =
      let values : Some (value.DefaultText t.text) ≡ Some (value.DefaultText s.text) = sym is_t ∙ (λ i. get named (key.Default (tables i) (names i))) ∙ is_s in
      let bodies : t.text ≡ s.text = cc in
      λ i. record { table = tables i; column = names i; text = bodies i }

  column : (t : NamedDefault) → IsDefault named t → ColumnOf named t.table t.column
  column t is = column_of named t.table t.column (sound.each (key.Default t.table t.column) (value.DefaultText t.text) is).others.0

  same_key : (t s : NamedDefault) (a b : AttrdefRow) (k l : ℕ) → IsDefault named t → IsDefault named s → IsDefaultRow oids t a → IsDefaultRow oids s b → Some a.oid ≡ Some k → Some b.oid ≡ Some l → eq_by_cmp nat_cmp l k ≡ true → t ≡ s
  same_key t s a b k l is_t is_s at_a at_b is_k is_l ties =
      let equal : oids.of (key.Default t.table t.column) ≡ oids.of (key.Default s.table s.column) = sym at_a.oid ∙ one_oid a.oid b.oid k l is_k is_l ties ∙ at_b.oid in
      let keys : key.Default t.table t.column ≡ key.Default s.table s.column = own.apart (key.Default t.table t.column) (key.Default s.table s.column) (value.DefaultText t.text) (value.DefaultText s.text) is_t is_s refl refl refl equal in
      same_default t s is_t is_s (cc) (cc)

  same_name : (t s : NamedDefault) (a b : AttrdefRow) (k l : RowName) → IsDefault named t → IsDefault named s → IsDefaultRow oids t a → IsDefaultRow oids s b → Some (a.adrelid, 0, a.adnum, []) ≡ Some k → Some (b.adrelid, 0, b.adnum, []) ≡ Some l → eq_by_cmp name_cmp l k ≡ true → t ≡ s
  same_name t s a b k l is_t is_s at_a at_b is_k is_l ties =
      let names : l ≡ k = tie name_cmp-IsAntisymmetric l k ties in
      let first : (a.adrelid, 0, a.adnum, []) ≡ k = ap (λ (o : Option RowName). unwrap_or o k) is_k in
      let second : (b.adrelid, 0, b.adnum, []) ≡ l = ap (λ (o : Option RowName). unwrap_or o l) is_l in
      let all = first ∙ sym names ∙ sym second in
      let of_t = column t is_t in
      let of_s = column s is_s in
      let equal : oids.of (key.Rel t.table) ≡ oids.of (key.Rel s.table) = sym at_a.relation ∙ ap (λ (n : RowName). n.0) all ∙ at_b.relation in
      let keys : key.Rel t.table ≡ key.Rel s.table = own.apart (key.Rel t.table) (key.Rel s.table) (value.Table of_t.columns) (value.Table of_s.columns) of_t.there of_s.there refl refl refl equal in
      let tables : t.table ≡ s.table = cc in
      let same : oids.number t.table t.column ≡ oids.number t.table s.column = sym at_a.number ∙ ap (λ (n : RowName). n.2) all ∙ at_b.number ∙ ap (λ (q : QName). oids.number q s.column) (sym tables) in
      same_default t s is_t is_s tables (one_number texts named sound oids own numbers cat led columns t.table t.column s.column of_t (subst (λ (q : QName). ColumnOf named q s.column) (sym tables) of_s) same)

  there : (t : NamedDefault) (row : AttrdefRow) → IsDefault named t → IsDefaultRow oids t row → is_default_there cat row ≡ true
  there t row is at =
      let c = column t is in
      (λ i. has_columns (kind_of cat.pg_class (at.relation i)) && has_number cat (at.relation i) (at.number i))
      ∙ rw (kind_found texts named sound oids.of own cat led t.table (value.Table c.columns) c.there, has_number_found texts named sound oids own numbers cat led columns t.table t.column c) refl

  good_text : (t : NamedDefault) (row : AttrdefRow) → IsDefault named t → IsDefaultRow oids t row → is_met_default cat None row.adexpr ≡ true
  good_text t row is at =
      let met : are_met cat None row.adexpr ≡ true = ap (are_met cat None) at.expression ∙ references_met texts named sound oids.of own cat led (expression_references t.text) (sound.each (key.Default t.table t.column) (value.DefaultText t.text) is).others.1 in
      rw (is_default_said row.adexpr t.text at.said, met) refl

  not_of_view : (t : NamedDefault) (row : AttrdefRow) → IsDefault named t → IsDefaultRow oids t row → default_left_out cat row ≡ None
  not_of_view t row is at =
      let c = column t is in
      ap (λ (o : Option RelationKind). if is_view o then Some what.DefaultOnView else None) (ap (kind_of cat.pg_class) at.relation ∙ kind_found texts named sound oids.of own cat led t.table (value.Table c.columns) c.there)

  pub defaults_meet : Meets default_rules cat cat.pg_attrdef
  defaults_meet = record {
    oids = distinct_keys (IsDefault named) (IsDefaultRow oids) cat.pg_attrdef are nat_cmp (λ r. Some r.oid) same_key;
    names = distinct_keys (IsDefault named) (IsDefaultRow oids) cat.pg_attrdef are name_cmp (λ r. Some (r.adrelid, 0, r.adnum, [])) same_name;
    places = no_keys place_cmp cat.pg_attrdef;
    marks = no_marks cat.pg_attrdef;
    objects = each_row (IsDefault named) (IsDefaultRow oids) cat.pg_attrdef are (λ row. is_no_oid row.oid ≡ false) (λ t row is at. ap is_no_oid at.oid ∙ own.some (key.Default t.table t.column) (value.DefaultText t.text) is refl);
    there = each_row (IsDefault named) (IsDefaultRow oids) cat.pg_attrdef are (λ row. not (is_default_there cat row) ≡ false) (λ t row is at. ap not (there t row is at));
    texts = each_row (IsDefault named) (IsDefaultRow oids) cat.pg_attrdef are (λ row. not (is_met_default cat None row.adexpr) ≡ false) (λ t row is at. ap not (good_text t row is at));
    inside = each_row (IsDefault named) (IsDefaultRow oids) cat.pg_attrdef are (λ row. default_left_out cat row ≡ None) not_of_view;
    needed = refl;
  }

  -- ---- by names

  gives : (t : NamedDefault) (row : AttrdefRow) → IsDefault named t → IsDefaultRow oids t row → (key.Default t.table t.column, value.DefaultText t.text) ∷ [] ≡ default_entries cat row
  gives t row is at =
      let c = column t is in
      let path : class_path_of cat row.adrelid ≡ Some t.table = ap (class_path_of cat) at.relation ∙ class_path_found texts named sound oids.of own cat led t.table (value.Table c.columns) c.there in
      let name : column_name cat row.adrelid row.adnum ≡ Some t.column = (λ i. column_name cat (at.relation i) (at.number i)) ∙ column_name_found texts named sound oids own numbers cat led columns t.table t.column c in
      sym (
      ap (λ (o : Option QName). under_path o (λ table. under (column_name cat row.adrelid row.adnum) (λ column. under (default_said row.adexpr) (λ text. (key.Default table column, value.DefaultText text) ∷ [])))) path
      ∙ ap (λ (o : Option Bytes). under o (λ column. under (default_said row.adexpr) (λ text. (key.Default t.table column, value.DefaultText text) ∷ []))) name
      ∙ ap (λ (o : Option Bytes). under o (λ text. (key.Default t.table t.column, value.DefaultText text) ∷ [])) at.said)

  defaults_held : (t : NamedDefault) (row : AttrdefRow) → IsDefault named t → IsDefaultRow oids t row → AllByRecursion (IsHeld named of_defaults) (default_entries cat row)
  defaults_held t row is at = subst (λ (es : List Entry). AllByRecursion (IsHeld named of_defaults) es) (gives t row is at) ((is, refl), tt)

  default_at : (q : QName) (name : Bytes) (v : Value) → get named (key.Default q name) ≡ Some v → (text : Bytes) × (v ≡ value.DefaultText text)
  default_at q name (value.DefaultText text) is = (text, refl)
  default_at q name v is = elim (sound.each (key.Default q name) v is).own [ ]

  default_covers : (k : Key) (v : Value) → get named k ≡ Some v → of_defaults k ≡ true → (t : NamedDefault) × IsDefault named t × ((row : AttrdefRow) → IsDefaultRow oids t row → IsIn (k, v) (default_entries cat row))
  default_covers (key.Default q name) v is kind =
      let found = default_at q name v is in
      let met : get named (key.Default q name) ≡ Some (value.DefaultText found.0) = is ∙ ap Some found.1 in (
        record { table = q; column = name; text = found.0 },
        met,
        λ row at. subst (IsIn (key.Default q name, v)) (gives (record { table = q; column = name; text = found.0 }) row met at) (inl (λ i. (key.Default q name, sym found.1 i))),
      )
  default_covers k v is kind = cc

  pub defaults_stand : AreEntries named of_defaults (flat_map (default_entries cat) cat.pg_attrdef)
  defaults_stand = rows_give (IsDefault named) (IsDefaultRow oids) cat.pg_attrdef are named of_defaults (default_entries cat) defaults_held default_covers
