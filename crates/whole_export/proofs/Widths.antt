-- A table has a row of pg_attribute for each of its columns, and no other.
use Rattle.std.proofs.Common.{◌≡◌, ℕ, suc, ℤ, Bool, true, false, cond, List, [], ◌∷◌, length, Some, refl, ap, sym, subst, ◌∙◌}
use Rattle.std.specs.FinMap.{get, nat_cmp-IsAntisymmetric}
use Rattle.std.specs.List.{filter, slice_get}
use Rattle.std.specs.Ordering.{int_cmp, is_le}
use Rattle.cat_rows.specs.declared.catalogue.Catalogue.{Catalogue}
use Rattle.cat_rows.specs.declared.relations.AttributeRow.{AttributeRow}
use Rattle.cat_model.specs.declared.object.QName.{QName}
use Rattle.cat_model.specs.declared.key.Key.TheVariants as key
use Rattle.cat_model.specs.declared.value.Value.TheVariants as value
use Rattle.cat_model.specs.declared.value.Column.{Column}
use Rattle.cat_model.specs.Values.{Named}
use Rattle.cat_names.specs.Kinds.{kind_of, is_table}
use Rattle.cat_names.specs.Lookups.{same_oid}
use Rattle.cat_sound.specs.Sound.{IsSound}
use Rattle.cat_sound.specs.Texts.{Texts}
use Rattle.cat_sound.proofs.Lists.{IsIn}
use Rattle.named_tables.specs.Oids.{AreOids}
use Rattle.named_tables.specs.Standing.{AreRowsOf}
use Rattle.named_tables.proofs.Rows.{in_place, among_in}
use Rattle.named_tables.proofs.Ties.{tie}
use Rattle.entry_ids.specs.Oids.{ObjectOids, AreNumbers}
use Rattle.entry_ids.specs.Relations.{NamedColumn, IsColumn, IsColumnRow}
use Rattle.entry_ids.proofs.Columns.{is_of_table}
use Rattle.entry_ids.proofs.Counting.{Pairs, pairs_of, pairs_filter, twice_filtered, count_rows}
use Rattle.entry_ids.proofs.Found.{in_filter, from_filter}
use Rattle.entry_ids.proofs.Lookups.{AreLedTo, has_tie, kind_found}
use Rattle.entry_ids.proofs.Ordered.{AreLined, Zipped, lined_up}
use Rattle.oid_groups.specs.Orders.{placed, by_number}
use Rattle.table_rows.specs.Tables.{column_count}

-- ---- lengths

zipped_length : {A R : Type 0} (Says : ℕ → A → R → Type 0) (xs : List A) (rows : List R) → Zipped Says xs rows → length rows ≡ length xs
zipped_length Says [] [] zipped = refl
zipped_length Says [] (r ∷ rows) zipped = elim zipped [ ]
zipped_length Says (x ∷ xs) [] zipped = elim zipped [ ]
zipped_length Says (x ∷ xs) (r ∷ rows) zipped = ap suc (zipped_length (λ i. Says (suc i)) xs rows zipped.1)

length-placed : {R : Type 0} (number : R → ℤ) (row : R) (rows : List R) → length (placed number row rows) ≡ suc (length rows)
unfolding placed
length-placed number row [] = refl
length-placed {R = R} number row (r ∷ rs) = by (is_le (int_cmp (number row) (number r))) (length-placed number row rs)
  where
    by : (b : Bool) → length (placed number row rs) ≡ suc (length rs) → length (cond b (row ∷ r ∷ rs) (r ∷ placed number row rs)) ≡ suc (length (r ∷ rs))
    by true more = refl
    by false more = ap suc more

length-by_number : {R : Type 0} (number : R → ℤ) (rows : List R) → length (by_number number rows) ≡ length rows
unfolding by_number
length-by_number number [] = refl
length-by_number number (row ∷ rows) = length-placed number row (by_number number rows) ∙ ap suc (length-by_number number rows)

-- ---- the columns of a table

module _ (texts : Texts) (named : Named) (sound : IsSound texts named) (oids : ObjectOids) (own : AreOids named oids.of) (numbers : AreNumbers named oids.number) (cat : Catalogue) (led : AreLedTo named oids.of cat) (are : AreRowsOf (IsColumn named) (IsColumnRow oids) (filter (is_of_table cat) cat.pg_attribute)) (q : QName) (columns : List Column) (is : get named (key.Rel q) ≡ Some (value.Table columns)) where
  abbrev thing_at : ℕ → Column → NamedColumn
  thing_at i c = record { table = q; columns = columns; place = i; column = c }

  abbrev Says : ℕ → Column → AttributeRow → Type 0
  Says i c row = (slice_get columns i ≡ Some c) × IsColumnRow oids (thing_at i c) row

  abbrev has_rel : AttributeRow → Bool
  has_rel a = same_oid (oids.of (key.Rel q)) a.attrelid

  in_table : (a : AttributeRow) → has_rel a ≡ true → is_of_table cat a ≡ true
  in_table a e = ap (λ (n : ℕ). is_table (kind_of cat.pg_class n)) (sym (tie nat_cmp-IsAntisymmetric (oids.of (key.Rel q)) a.attrelid e)) ∙ ap is_table (kind_found texts named sound oids.of own cat led q (value.Table columns) is)

  lined : AreLined (λ (a : AttributeRow). a.attnum) (λ i c row. (slice_get columns i ≡ Some c) × IsColumnRow oids (thing_at i c) row) columns (filter has_rel cat.pg_attribute)
  lined = record {
    each = λ i c at.
        let one = are.each (thing_at i c) (record { there = is; at = at }) in
        let inside = from_filter (is_of_table cat) cat.pg_attribute one.0 (among_in (filter (is_of_table cat) cat.pg_attribute) one.0 one.1) in
        (one.0, in_filter has_rel cat.pg_attribute one.0 inside.0 (has_tie (oids.of (key.Rel q)) one.0.attrelid (sym one.2.relation)), (at, one.2));
    only = only;
    once = subst (Pairs (λ (a b : AttributeRow). (i : ℕ) (c : Column) → Says i c a → Says i c b → ⊥)) (sym (twice_filtered has_rel (is_of_table cat) in_table cat.pg_attribute))
        (pairs_filter (λ (a b : AttributeRow). (i : ℕ) (c : Column) → Says i c a → Says i c b → ⊥) has_rel (filter (is_of_table cat) cat.pg_attribute)
        (pairs_of (λ (a b : AttributeRow). has_rel a ≡ true → has_rel b ≡ true → (i : ℕ) (c : Column) → Says i c a → Says i c b → ⊥) (filter (is_of_table cat) cat.pg_attribute) (λ m n a b below at_a at_b of_a of_b i c one two. are.once m n a b (thing_at i c) below at_a at_b one.1 two.1)));
    rises = λ i j c d a b below at_i at_j one two. (λ k. int_cmp (one.1.number k) (two.1.number k)) ∙ numbers.rises q columns i j c d is below at_i at_j;
  }
    where
      only : (r : AttributeRow) → IsIn r (filter has_rel cat.pg_attribute) → (i : ℕ) × (c : Column) × (slice_get columns i ≡ Some c) × Says i c r
      only r among =
          let inside = from_filter has_rel cat.pg_attribute r among in
          let one = are.only r (in_place (filter (is_of_table cat) cat.pg_attribute) r (in_filter (is_of_table cat) cat.pg_attribute r inside.0 (in_table r inside.1))) in
          let equal : oids.of (key.Rel one.0.table) ≡ oids.of (key.Rel q) = sym (tie nat_cmp-IsAntisymmetric (oids.of (key.Rel q)) r.attrelid inside.1 ∙ one.2.relation) in
          let keys : key.Rel one.0.table ≡ key.Rel q = own.apart (key.Rel one.0.table) (key.Rel q) (value.Table one.0.columns) (value.Table columns) one.1.there is refl refl refl equal in
          let tables : one.0.table ≡ q = cc in
          let lists : Some (value.Table one.0.columns) ≡ Some (value.Table columns) = sym one.1.there ∙ ap (get named) keys ∙ is in
          let same : one.0.columns ≡ columns = cc in
          let at : slice_get columns one.0.place ≡ Some one.0.column = ap (λ (cs : List Column). slice_get cs one.0.place) (sym same) ∙ one.1.at in
          (one.0.place, one.0.column, at, (at, subst (λ (t : NamedColumn). IsColumnRow oids t r) (λ k. record { table = tables k; columns = same k; place = one.0.place; column = one.0.column }) one.2))

  -- as many rows as columns
  pub width : column_count cat (oids.of (key.Rel q)) ≡ length columns
  width =
      count_rows (λ (a : AttributeRow). a.attrelid) (oids.of (key.Rel q)) cat.pg_attribute
      ∙ sym (length-by_number (λ (a : AttributeRow). a.attnum) (filter has_rel cat.pg_attribute))
      ∙ zipped_length Says columns (by_number (λ (a : AttributeRow). a.attnum) (filter has_rel cat.pg_attribute)) (lined_up (λ (a : AttributeRow). a.attnum) Says columns (filter has_rel cat.pg_attribute) lined)
