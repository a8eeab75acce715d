-- The rows of pg_index meet the table's conditions.
use Rattle.std.proofs.Common.{◌≡◌, ℕ, Bool, true, false, not, ◌&&◌, ◌||◌, ◌==◌, List, [], ◌∷◌, map, Option, Some, None, refl, ap, sym, subst, ◌∙◌, inl, inr, true≢false, if◌then◌else◌}
use Rattle.std.specs.Ordering.{nat_cmp, eq_by_cmp}
use Rattle.std.specs.FinMap.{get, nat_cmp-IsAntisymmetric}
use Rattle.std.specs.List.{filter}
use Rattle.cat_rows.specs.declared.catalogue.Catalogue.{Catalogue}
use Rattle.cat_rows.specs.declared.relations.IndexRow.{IndexRow}
use Rattle.cat_rows.specs.declared.constraints.ConstraintRow.{ConstraintRow}
use Rattle.cat_model.specs.declared.key.Key.TheVariants as key
use Rattle.cat_model.specs.declared.value.Value.TheVariants as value
use Rattle.cat_model.specs.KeyEffects.{index_path}
use Rattle.cat_model.specs.IndexColumns.{plain_columns}
use Rattle.cat_model.specs.Trees.{is_unique, unique_on}
use Rattle.cat_model.specs.Values.{Bytes, Named}
use Rattle.cat_model.proofs.MarkLaws.{same_path-self}
use Rattle.cat_names.specs.Kinds.{kind_of, is_table, is_index}
use Rattle.cat_names.specs.Lookups.{same_oid, has_oid, is_no_oid}
use Rattle.cat_book.specs.Leads.{is_key, key_indexes}
use Rattle.cat_book.specs.Meets.{Meets}
use Rattle.cat_book.specs.Paths.{class_path_of}
use Rattle.cat_book.specs.Rules.{name_cmp, place_cmp}
use Rattle.row_texts.specs.IndexTexts.{index_said}
use Rattle.well_formed.specs.Indexes.{are_columns, is_unique_said, agrees_if_said, is_there, index_rules}
use Rattle.cat_sound.specs.Asked.{Asked}
use Rattle.cat_sound.specs.Asks.{names_or_none}
use Rattle.cat_sound.specs.Texts.{Texts}
use Rattle.cat_sound.specs.Sound.{IsMet, IsSound}
use Rattle.cat_sound.proofs.Lists.{IsIn}
use Rattle.cat_sound.proofs.Owners.{one_index, not_both}
use Rattle.named_tables.specs.Oids.{AreOids}
use Rattle.named_tables.specs.Standing.{AreRowsOf}
use Rattle.named_tables.proofs.Ties.{tie}
use Rattle.named_tables.proofs.Rows.{in_place, one_oid, each_row, distinct_keys, no_keys, no_marks}
use Rattle.named_objects.specs.Oids.{ObjectOids, AreNumbers}
use Rattle.named_objects.specs.Relations.{IsColumn, IsColumnRow, NamedIndex, IsIndex, IsIndexRow}
use Rattle.named_objects.specs.Constraints.{Constrained, of_table, of_domain, IsConstrained, IsConstrainedRow}
use Rattle.named_objects.proofs.Found.{from_filter}
use Rattle.named_objects.proofs.Lookups.{AreLedTo, class_path_found, kind_found}
use Rattle.named_objects.proofs.KeyIndexes.{keyed_so, index_so, index_at, key_index}
use Rattle.named_objects.proofs.Columns.{is_of_table, table_met, are_columns_found}

-- no row has an oid that a test over rows would find
not_among : {R : Type 0} (key : R → ℕ) (rows : List R) (oid : ℕ) → ((r : R) → IsIn r rows → oid ≡ key r → ⊥) → has_oid (map key rows) oid ≡ false
not_among key [] oid none = refl
not_among {R = R} key (x ∷ rows) oid none = by (same_oid oid (key x)) refl (not_among key rows oid (λ r among. none r (inr among)))
  where
    by : (b : Bool) → same_oid oid (key x) ≡ b → has_oid (map key rows) oid ≡ false → b || has_oid (map key rows) oid ≡ false
    by true e more = absurd (none x (inl refl) (tie nat_cmp-IsAntisymmetric oid (key x) e))
    by false e more = more

said_unique : (b : Bool) → is_unique_said b b ≡ true
said_unique true = refl
said_unique false = refl

module _ (texts : Texts) (named : Named) (sound : IsSound texts named) (oids : ObjectOids) (own : AreOids named oids.of) (numbers : AreNumbers named oids.number) (cat : Catalogue) (led : AreLedTo named oids.of cat) (columns : AreRowsOf (IsColumn named) (IsColumnRow oids) (filter (is_of_table cat) cat.pg_attribute)) (constraints : AreRowsOf (IsConstrained named) (IsConstrainedRow oids) cat.pg_constraint) (are : AreRowsOf (IsIndex named) (IsIndexRow oids.of) cat.pg_index) where
  same_index : (t s : NamedIndex) → IsIndex named t → IsIndex named s → t.table ≡ s.table → t.name ≡ s.name → t ≡ s
  same_index t s is_t is_s tables names =
      let values : Some (value.Index t.index) ≡ Some (value.Index s.index) = sym is_t ∙ (λ i. get named (key.Index (tables i) (names i))) ∙ is_s in
      let indexes : t.index ≡ s.index = cc in
      λ i. record { table = tables i; name = names i; index = indexes i }

  -- its relation, and its table with the columns that it must have
  asked : (t : NamedIndex) → IsIndex named t → IsMet named (key.Rel (index_path t.table t.name), Asked.index_on t.table)
  asked t is = (sound.each (key.Index t.table t.name) (value.Index t.index) is).others.1.0

  relation : (t : NamedIndex) → IsIndex named t → get named (key.Rel (index_path t.table t.name)) ≡ Some (value.IndexOf t.table)
  relation t is = index_at texts named sound (index_path t.table t.name) t.table (asked t is)

  columns_met : (t : NamedIndex) → IsIndex named t → IsMet named (key.Rel t.table, Asked.has_columns (names_or_none (unique_on t.index)))
  columns_met t is = (sound.each (key.Index t.table t.name) (value.Index t.index) is).others.0

  same_key : (t s : NamedIndex) (a b : IndexRow) (k l : ℕ) → IsIndex named t → IsIndex named s → IsIndexRow oids.of t a → IsIndexRow oids.of s b → Some a.indexrelid ≡ Some k → Some b.indexrelid ≡ Some l → eq_by_cmp nat_cmp l k ≡ true → t ≡ s
  same_key t s a b k l is_t is_s at_a at_b is_k is_l ties =
      let equal : oids.of (key.Rel (index_path t.table t.name)) ≡ oids.of (key.Rel (index_path s.table s.name)) = sym at_a.relation ∙ one_oid a.indexrelid b.indexrelid k l is_k is_l ties ∙ at_b.relation in
      let keys : key.Rel (index_path t.table t.name) ≡ key.Rel (index_path s.table s.name) = own.apart (key.Rel (index_path t.table t.name)) (key.Rel (index_path s.table s.name)) (value.IndexOf t.table) (value.IndexOf s.table) (relation t is_t) (relation s is_s) refl refl refl equal in
      let both = one_index texts named sound t.table s.table t.name s.name t.index s.index is_t is_s cc in
      same_index t s is_t is_s both.0 both.1

  there : (t : NamedIndex) (row : IndexRow) → IsIndex named t → IsIndexRow oids.of t row → is_there cat row ≡ true
  there t row is at =
      let table = table_met named t.table (names_or_none (unique_on t.index)) (columns_met t is) in
      (λ i. is_index (kind_of cat.pg_class (at.relation i)) && is_table (kind_of cat.pg_class (at.table i)))
      ∙ rw (kind_found texts named sound oids.of own cat led (index_path t.table t.name) (value.IndexOf t.table) (relation t is), kind_found texts named sound oids.of own cat led t.table (value.Table table.0) table.1) refl

  -- no key has it
  no_key : (t : NamedIndex) (row : IndexRow) → IsIndex named t → IsIndexRow oids.of t row → has_oid (key_indexes cat) row.indexrelid ≡ false
  no_key t row is at = not_among (λ (c : ConstraintRow). c.conindid) (filter is_key cat.pg_constraint) row.indexrelid none
    where
      by : (c : Constrained) (r : ConstraintRow) → IsConstrained named c → IsConstrainedRow oids c r → is_key r ≡ true → row.indexrelid ≡ r.conindid → ⊥
      by (of_table c) r is_c says keyed same =
          let unique : is_unique c.constraint.kind ≡ true = keyed_so c.constraint.kind (ap (λ (n : ℕ). n == 112 || n == 117) (sym says.letter) ∙ keyed) in
          let paths : oids.of (key.Rel (index_path t.table t.name)) ≡ oids.of (key.Rel (index_path c.table c.name)) = sym at.relation ∙ same ∙ says.index ∙ index_so c oids.of c.constraint.kind unique in
          let keys : key.Rel (index_path t.table t.name) ≡ key.Rel (index_path c.table c.name) = own.apart (key.Rel (index_path t.table t.name)) (key.Rel (index_path c.table c.name)) (value.IndexOf t.table) (value.IndexOf c.table) (relation t is) (index_at texts named sound (index_path c.table c.name) c.table (key_index texts named sound c.table c.name c.constraint is_c unique)) refl refl refl paths in
          not_both texts named sound t.table c.table t.name c.name t.index c.constraint is is_c unique cc
      by (of_domain c) r is_c says keyed same = let no : is_key r ≡ false = ap (λ (n : ℕ). n == 112 || n == 117) says.letter in true≢false (sym keyed ∙ no)

      none : (r : ConstraintRow) → IsIn r (filter is_key cat.pg_constraint) → row.indexrelid ≡ r.conindid → ⊥
      none r among same =
          let inside = from_filter is_key cat.pg_constraint r among in
          let one = constraints.only r (in_place cat.pg_constraint r inside.0) in
          by one.0 r one.1 one.2 inside.1 same

  its_columns : (t : NamedIndex) → IsIndex named t → (b : Bool) → t.index.unique ≡ b → (o : Option (List Bytes)) → plain_columns t.index.text ≡ o → (if b then are_columns cat (oids.of (key.Rel t.table)) o else true) ≡ true
  its_columns t is false e o at = refl
  its_columns t is true e None at = refl
  its_columns t is true e (Some names) at =
      let same : names_or_none (unique_on t.index) ≡ names = rw (e, at) refl in
      are_columns_found texts named sound oids own numbers cat led columns t.table names (subst (λ (ns : List Bytes). IsMet named (key.Rel t.table, Asked.has_columns ns)) same (columns_met t is))

  agreeing : (t : NamedIndex) (row : IndexRow) → IsIndex named t → IsIndexRow oids.of t row → agrees_if_said cat row (index_said row.indexdef) ≡ true
  agreeing t row is at =
      let table = table_met named t.table (names_or_none (unique_on t.index)) (columns_met t is) in
      let of_table : class_path_of cat row.indrelid ≡ Some t.table = ap (class_path_of cat) at.table ∙ class_path_found texts named sound oids.of own cat led t.table (value.Table table.0) table.1 in
      let of_index : class_path_of cat row.indexrelid ≡ Some (index_path t.table t.name) = ap (class_path_of cat) at.relation ∙ class_path_found texts named sound oids.of own cat led (index_path t.table t.name) (value.IndexOf t.table) (relation t is) in
      let unique : is_unique_said row.indisunique t.index.unique ≡ true = ap (λ (b : Bool). is_unique_said b t.index.unique) at.unique ∙ said_unique t.index.unique in
      let of_columns : (if t.index.unique then are_columns cat row.indrelid (plain_columns t.index.text) else true) ≡ true = ap (λ (n : ℕ). if t.index.unique then are_columns cat n (plain_columns t.index.text) else true) at.table ∙ its_columns t is t.index.unique refl (plain_columns t.index.text) refl in
      ap (agrees_if_said cat row) at.said
      ∙ rw (unique, of_table, same_path-self t.table, of_index, same_path-self (index_path t.table t.name), of_columns) refl

  pub indexes_meet : Meets index_rules cat cat.pg_index
  indexes_meet = record {
    oids = distinct_keys (IsIndex named) (IsIndexRow oids.of) cat.pg_index are nat_cmp (λ r. Some r.indexrelid) same_key;
    names = no_keys name_cmp cat.pg_index;
    places = no_keys place_cmp cat.pg_index;
    marks = no_marks cat.pg_index;
    objects = each_row (IsIndex named) (IsIndexRow oids.of) cat.pg_index are (λ row. is_no_oid row.indexrelid ≡ false) (λ t row is at. ap is_no_oid at.relation ∙ own.some (key.Rel (index_path t.table t.name)) (value.IndexOf t.table) (relation t is) refl);
    there = each_row (IsIndex named) (IsIndexRow oids.of) cat.pg_index are (λ row. not (is_there cat row) ≡ false) (λ t row is at. ap not (there t row is at));
    texts = each_row (IsIndex named) (IsIndexRow oids.of) cat.pg_index are (λ row. (has_oid (key_indexes cat) row.indexrelid || not (agrees_if_said cat row (index_said row.indexdef))) ≡ false) (λ t row is at. rw (no_key t row is at, agreeing t row is at) refl);
    inside = λ i row at. refl;
    needed = refl;
  }
