-- The rows of pg_class meet the table's conditions.
use Rattle.std.proofs.Common.{◌≡◌, ℕ, ℤ, pos, ◌==◌, ◌<◌, ◌≤◌, Bool, true, false, not, ◌||◌, List, map, length, Option, Some, None, refl, ap, sym, subst, ◌∙◌, unwrap_or, if◌then◌else◌, arith}
use Rattle.std.proofs.lemmas.Bool.Decides.{Decides-int_eq}
use Rattle.std.proofs.lemmas.List.{length-map}
use Rattle.std.proofs.lemmas.Cmp.{int_eq_equiv}
use Rattle.std.proofs.lemmas.Map.Made.{length-le_from_is_member}
use Rattle.std.specs.Ordering.{nat_cmp, int_eq, eq_by_cmp}
use Rattle.std.specs.FinMap.{get, nat_cmp-IsAntisymmetric}
use Rattle.std.specs.List.{filter, slice_get, list_any}
use Rattle.cat_rows.specs.declared.catalogue.Catalogue.{Catalogue}
use Rattle.cat_rows.specs.declared.relations.ClassRow.{ClassRow}
use Rattle.cat_rows.specs.declared.relations.AttributeRow.{AttributeRow}
use Rattle.cat_rows.specs.declared.relations.IndexRow.{IndexRow}
use Rattle.cat_rows.specs.declared.relations.RewriteRow.{RewriteRow}
use Rattle.cat_rows.specs.declared.sequences.SequenceRow.{SequenceRow}
use Rattle.cat_rows.specs.declared.constraints.ConstraintRow.{ConstraintRow}
use Rattle.acl_text.specs.declared.list.AclItem.{AclItem}
use Rattle.cat_model.specs.declared.words.What.TheVariants as what
use Rattle.cat_model.specs.declared.object.QName.{QName}
use Rattle.cat_model.specs.declared.object.Object.TheVariants as object
use Rattle.cat_model.specs.declared.key.Key.TheVariants as key
use Rattle.cat_model.specs.declared.value.Value.{Value}
use Rattle.cat_model.specs.declared.value.Value.TheVariants as value
use Rattle.cat_model.specs.declared.value.Column.{Column}
use Rattle.cat_model.specs.declared.value.Constraint.{Constraint}
use Rattle.cat_model.specs.declared.value.Index.{Index}
use Rattle.cat_model.specs.declared.value.Sequence.{Sequence}
use Rattle.cat_model.specs.declared.constraint.ConstraintKind.{ConstraintKind}
use Rattle.cat_model.specs.declared.constraint.ConstraintKind.TheVariants as kinds
use Rattle.cat_model.specs.KeyEffects.{index_path}
use Rattle.cat_model.specs.Trees.{is_unique}
use Rattle.cat_model.specs.Values.{Bytes, Named, Grants}
use Rattle.cat_names.specs.declared.rights.GrantKind.{GrantKind}
use Rattle.cat_names.specs.declared.rights.GrantKind.TheVariants as on
use Rattle.cat_names.specs.declared.relations.RelationKind.{RelationKind}
use Rattle.cat_names.specs.Kinds.{kind_of, is_table, relation_kind}
use Rattle.cat_names.specs.Lookups.{same_oid, has_oid, is_no_oid, is_role, role_name, schema_oids}
use Rattle.cat_names.specs.Rights.{is_bad_acl, is_by_other, other_left_out}
use Rattle.cat_book.specs.Leads.{column_count, has_own_row, view_oids, sequence_oids, index_oids, key_indexes, is_key}
use Rattle.cat_book.specs.Meets.{Meets}
use Rattle.cat_book.specs.Rules.{RowName, name_cmp, place_cmp}
use Rattle.plain_tables.specs.Relations.{is_there, is_bad_relation_acl, kind_left_out, persistence_left_out, columns_left_out, relation_left_out, relation_rules}
use Rattle.cat_sound.specs.Asked.{Asked}
use Rattle.cat_sound.specs.Beside.{is_key_at, is_index_at}
use Rattle.cat_sound.specs.Rights.{AreWithin}
use Rattle.cat_sound.specs.Texts.{Texts}
use Rattle.cat_sound.specs.Sound.{IsMet, IsSound}
use Rattle.cat_sound.proofs.Changes.{value_met}
use Rattle.cat_sound.proofs.Lists.{IsIn}
use Rattle.named_tables.specs.Oids.{AreOids}
use Rattle.named_tables.specs.Standing.{AreRowsOf}
use Rattle.named_tables.proofs.Acls.{by_owner, no_bad_acl}
use Rattle.named_tables.proofs.RightLists.{rights_for}
use Rattle.named_tables.proofs.Owned.{owner_met, takes_them, holder_met, grants_good, met_by}
use Rattle.named_tables.proofs.Roles.{named_there, is_role_met, is_name_met}
use Rattle.named_tables.proofs.Ties.{tie}
use Rattle.named_tables.proofs.Rows.{name_cmp-IsAntisymmetric, in_place, place_in, among_in, one_oid, each_row, distinct_keys, no_keys, no_marks}
use Rattle.named_objects.specs.Oids.{ObjectOids, AreNumbers}
use Rattle.named_objects.specs.Relations.{NamedRelation, IsRelation, IsRelationRow, IsOwned, IsRowOfKind, NamedColumn, IsColumn, IsColumnRow, IsSequence, IsSequenceRow, IsIndex, IsIndexRow, IsBody, IsBodyRow}
use Rattle.named_objects.specs.Constraints.{letter_of, of_table, IsConstrained, IsConstrainedRow}
use Rattle.named_objects.proofs.Found.{has_mapped, in_filter, from_filter, any_mapped, mapped_any}
use Rattle.named_objects.proofs.Lookups.{AreLedTo, has_tie, kind_found, has_schema_oid, kind_at, kind_so}
use Rattle.named_objects.proofs.Columns.{is_of_table, one_column}
use Rattle.named_objects.proofs.Counting.{Pairs, pairs_of, pairs_filter, count_rows, twice_filtered, distinct_of, not_over, within_most}
use Rattle.named_objects.proofs.KeyIndexes.{index_so}

or_true : (b : Bool) → b || true ≡ true
or_true true = refl
or_true false = refl

pub keyed_letter : (kind : ConstraintKind) → is_unique kind ≡ true → letter_of kind == 112 || letter_of kind == 117 ≡ true
keyed_letter kinds.Primary e = refl
keyed_letter kinds.Unique e = refl
keyed_letter kinds.Foreign e = cc
keyed_letter kinds.Check e = cc

-- the tables that have rows of relations' own
pub record HaveOwn (named : Named) (oids : ObjectOids) (cat : Catalogue) : Type 0 where
  pub columns : AreRowsOf (IsColumn named) (IsColumnRow oids) (filter (is_of_table cat) cat.pg_attribute)
  pub constraints : AreRowsOf (IsConstrained named) (IsConstrainedRow oids) cat.pg_constraint
  pub indexes : AreRowsOf (IsIndex named) (IsIndexRow oids.of) cat.pg_index
  pub sequences : AreRowsOf (IsSequence named) (IsSequenceRow named oids) cat.pg_sequence
  pub bodies : AreRowsOf (IsBody named) (IsBodyRow oids.of) cat.pg_rewrite

module _ (texts : Texts) (named : Named) (sound : IsSound texts named) (oids : ObjectOids) (own : AreOids named oids.of) (numbers : AreNumbers named oids.number) (cat : Catalogue) (led : AreLedTo named oids.of cat) (have : HaveOwn named oids cat) where
  same_relation : (t s : NamedRelation) → IsRelation named t → IsRelation named s → t.path ≡ s.path → t ≡ s
  same_relation t s is_t is_s paths =
      let values : Some t.relation ≡ Some s.relation = sym is_t ∙ ap (λ (q : QName). get named (key.Rel q)) paths ∙ is_s in
      let relations : t.relation ≡ s.relation = cc in
      λ i. record { path = paths i; relation = relations i }

  same_key : (t s : NamedRelation) (a b : ClassRow) (k l : ℕ) → IsRelation named t → IsRelation named s → IsRelationRow named oids.of t a → IsRelationRow named oids.of s b → Some a.oid ≡ Some k → Some b.oid ≡ Some l → eq_by_cmp nat_cmp l k ≡ true → t ≡ s
  same_key t s a b k l is_t is_s at_a at_b is_k is_l ties =
      let equal : oids.of (key.Rel t.path) ≡ oids.of (key.Rel s.path) = sym at_a.oid ∙ one_oid a.oid b.oid k l is_k is_l ties ∙ at_b.oid in
      let keys : key.Rel t.path ≡ key.Rel s.path = own.apart (key.Rel t.path) (key.Rel s.path) t.relation s.relation is_t is_s refl refl refl equal in
      same_relation t s is_t is_s cc

  same_name : (t s : NamedRelation) (a b : ClassRow) (k l : RowName) → IsRelation named t → IsRelation named s → IsRelationRow named oids.of t a → IsRelationRow named oids.of s b → Some (a.relnamespace, 0, pos 0, a.relname) ≡ Some k → Some (b.relnamespace, 0, pos 0, b.relname) ≡ Some l → eq_by_cmp name_cmp l k ≡ true → t ≡ s
  same_name t s a b k l is_t is_s at_a at_b is_k is_l ties =
      let names : l ≡ k = tie name_cmp-IsAntisymmetric l k ties in
      let first : (a.relnamespace, 0, pos 0, a.relname) ≡ k = ap (λ (o : Option RowName). unwrap_or o k) is_k in
      let second : (b.relnamespace, 0, pos 0, b.relname) ≡ l = ap (λ (o : Option RowName). unwrap_or o l) is_l in
      let all = first ∙ sym names ∙ sym second in
      let equal : oids.of (key.Schema t.path.schema) ≡ oids.of (key.Schema s.path.schema) = sym at_a.schema ∙ ap (λ (n : RowName). n.0) all ∙ at_b.schema in
      let one = value_met named (key.Schema t.path.schema, Asked.there) (sound.each (key.Rel t.path) t.relation is_t).others.0 in
      let two = value_met named (key.Schema s.path.schema, Asked.there) (sound.each (key.Rel s.path) s.relation is_s).others.0 in
      let keys : key.Schema t.path.schema ≡ key.Schema s.path.schema = own.apart (key.Schema t.path.schema) (key.Schema s.path.schema) one.0 two.0 one.1 two.1 refl refl refl equal in
      let schemas : t.path.schema ≡ s.path.schema = cc in
      let words : t.path.name ≡ s.path.name = sym at_a.name ∙ ap (λ (n : RowName). n.3) all ∙ at_b.name in
      same_relation t s is_t is_s (λ i. record { schema = schemas i; name = words i })

  -- ---- owners and rights

  record Owning (q : QName) (kind : RelationKind) (row : ClassRow) : Type 0 where
    role : Bytes
    met : IsMet named (key.Role role, Asked.there)
    owner : row.relowner ≡ oids.of (key.Role role)
    good : is_bad_relation_acl kind cat.pg_authid row.relacl ≡ false
    granted : is_by_other (Some role) row.relacl ≡ false

  owned : (q : QName) (kind : GrantKind) (row : ClassRow) → IsOwned named oids.of kind q row.relowner row.relacl → ((g : Grants) → IsMet named (key.Rel q, Asked.takes g) → AreWithin g (rights_for kind)) → (role : Bytes) × IsMet named (key.Role role, Asked.there) × (row.relowner ≡ oids.of (key.Role role)) × (is_bad_acl kind cat.pg_authid row.relacl ≡ false) × (is_by_other (Some role) row.relacl ≡ false)
  owned q kind row at within =
      let met = owner_met texts named sound (object.Relation q) at.role at.owner_there in (
        at.role,
        met,
        at.owner,
        no_bad_acl kind cat.pg_authid at.role
            (is_name_met texts named sound oids.of own cat.pg_authid led.roles at.role met)
            at.grants row.relacl
            (grants_good texts named sound (object.Relation q) at.grants at.grants_there at.role at.owner_there)
            (within at.grants (takes_them texts named sound (object.Relation q) at.grants at.grants_there))
            (λ name item has. is_name_met texts named sound oids.of own cat.pg_authid led.roles name (holder_met texts named sound (object.Relation q) at.grants at.grants_there name item has))
            at.rights,
        by_owner kind at.role at.grants row.relacl at.rights,
      )

  owning : (q : QName) (v : Value) (row : ClassRow) → get named (key.Rel q) ≡ Some v → IsRowOfKind named oids.of q v row → Owning q (kind_at v) row
  owning q (value.Table columns) row is at =
      let o = owned q on.Table row at.1 (λ g met. met_by named (key.Rel q, Asked.takes g) (value.Table columns) is met) in
      record { role = o.0; met = o.1; owner = o.2; good = o.3; granted = o.4 }
  owning q value.View row is at =
      let o = owned q on.Table row at.1 (λ g met. met_by named (key.Rel q, Asked.takes g) value.View is met) in
      record { role = o.0; met = o.1; owner = o.2; good = o.3; granted = o.4 }
  owning q (value.Sequence s) row is at =
      let o = owned q on.Sequence row at.1 (λ g met. met_by named (key.Rel q, Asked.takes g) (value.Sequence s) is met) in
      record { role = o.0; met = o.1; owner = o.2; good = o.3; granted = o.4 }
  owning q (value.IndexOf table) row is at =
      record {
        role = at.1.role;
        met = owner_met texts named sound (object.Relation table) at.1.role at.1.owner_there;
        owner = at.1.owner;
        good = ap (λ (acl : Option (List AclItem)). is_bad_relation_acl (kind_at (value.IndexOf table)) cat.pg_authid acl) at.1.no_rights;
        granted = ap (λ (acl : Option (List AclItem)). is_by_other (Some at.1.role) acl) at.1.no_rights;
      }
  owning q _ row is at = elim at [ ]

  -- ---- rows of their own

  body_row : (q : QName) → IsMet named (key.Body q, Asked.there) → has_oid (view_oids cat) (oids.of (key.Rel q)) ≡ true
  body_row q met =
      let found = value_met named (key.Body q, Asked.there) met in
      by found.0 found.1
    where
      by : (v : Value) → get named (key.Body q) ≡ Some v → has_oid (view_oids cat) (oids.of (key.Rel q)) ≡ true
      by (value.Body body) is =
          let at = have.bodies.each (record { view = q; body = body }) is in
          ap (has_oid (view_oids cat)) (sym at.2.view) ∙ has_mapped nat_cmp (λ (r : RewriteRow). r.ev_class) cat.pg_rewrite at.0 (has_tie at.0.ev_class at.0.ev_class refl) (among_in cat.pg_rewrite at.0 at.1)
      by v is = elim (sound.each (key.Body q) v is).own [ ]

  sequence_row : (q : QName) (s : Sequence) → get named (key.Rel q) ≡ Some (value.Sequence s) → IsMet named (key.SeqVal q, Asked.there) → has_oid (sequence_oids cat) (oids.of (key.Rel q)) ≡ true
  sequence_row q s is met =
      let found = value_met named (key.SeqVal q, Asked.there) met in
      by found.0 found.1
    where
      by : (v : Value) → get named (key.SeqVal q) ≡ Some v → has_oid (sequence_oids cat) (oids.of (key.Rel q)) ≡ true
      by (value.SequenceValue last called) there =
          let at = have.sequences.each (record { path = q; sequence = s; last = last; called = called }) (record { there = is; value = there }) in
          ap (has_oid (sequence_oids cat)) (sym at.2.relation) ∙ has_mapped nat_cmp (λ (r : SequenceRow). r.seqrelid) cat.pg_sequence at.0 (has_tie at.0.seqrelid at.0.seqrelid refl) (among_in cat.pg_sequence at.0 at.1)
      by v there = elim (sound.each (key.SeqVal q) v there).own [ ]

  -- an index is that of a row of pg_index, or of a key
  index_row : (q table : QName) → get named (key.Rel q) ≡ Some (value.IndexOf table) → has_oid (index_oids cat) (oids.of (key.Rel q)) || has_oid (key_indexes cat) (oids.of (key.Rel q)) ≡ true
  index_row q table is = by (get named (key.Con table q.name)) refl (get named (key.Index table q.name)) refl (sound.beside.indexes q table is)
    where
      path : index_path table q.name ≡ q
      path = λ i. record { schema = sym (sound.each (key.Rel q) (value.IndexOf table) is).own i; name = q.name }

      of_index : (i : Index) → get named (key.Index table q.name) ≡ Some (value.Index i) → has_oid (index_oids cat) (oids.of (key.Rel q)) ≡ true
      of_index i there =
          let at = have.indexes.each (record { table = table; name = q.name; index = i }) there in
          ap (has_oid (index_oids cat)) (ap (λ (p : QName). oids.of (key.Rel p)) (sym path) ∙ sym at.2.relation) ∙ has_mapped nat_cmp (λ (r : IndexRow). r.indexrelid) cat.pg_index at.0 (has_tie at.0.indexrelid at.0.indexrelid refl) (among_in cat.pg_index at.0 at.1)

      of_key : (c : Constraint) → get named (key.Con table q.name) ≡ Some (value.Constraint c) → is_unique c.kind ≡ true → has_oid (key_indexes cat) (oids.of (key.Rel q)) ≡ true
      of_key c there keyed =
          let at = have.constraints.each (of_table (record { table = table; name = q.name; constraint = c })) there in
          let of_kind : is_key at.0 ≡ true = ap (λ (n : ℕ). n == 112 || n == 117) at.2.letter ∙ keyed_letter c.kind keyed in
          let index : at.0.conindid ≡ oids.of (key.Rel q) = at.2.index ∙ index_so (record { table = table; name = q.name; constraint = c }) oids.of c.kind keyed ∙ ap (λ (p : QName). oids.of (key.Rel p)) path in
          ap (has_oid (key_indexes cat)) (sym index) ∙ has_mapped nat_cmp (λ (r : ConstraintRow). r.conindid) (filter is_key cat.pg_constraint) at.0 (has_tie at.0.conindid at.0.conindid refl) (in_filter is_key cat.pg_constraint at.0 (among_in cat.pg_constraint at.0 at.1) of_kind)

      by : (o : Option Value) → get named (key.Con table q.name) ≡ o → (p : Option Value) → get named (key.Index table q.name) ≡ p → is_key_at o ≡ not (is_index_at p) → has_oid (index_oids cat) (oids.of (key.Rel q)) || has_oid (key_indexes cat) (oids.of (key.Rel q)) ≡ true
      by o at (Some (value.Index i)) there same = rw (of_index i there) refl
      by (Some (value.Constraint c)) at None there same = rw (of_key c at same) (or_true (has_oid (index_oids cat) (oids.of (key.Rel q))))
      by (Some v) at None there same = elim (sound.each (key.Con table q.name) v at).own [ ]
      by None at None there same = cc
      by o at (Some v) there same = elim (sound.each (key.Index table q.name) v there).own [ ]

  own_row : (q : QName) (v : Value) → get named (key.Rel q) ≡ Some v → has_own_row cat (kind_at v) (oids.of (key.Rel q)) ≡ true
  own_row q (value.Table columns) is = refl
  own_row q value.View is = body_row q (sound.each (key.Rel q) value.View is).others.1.0
  own_row q (value.Sequence s) is = sequence_row q s is (sound.each (key.Rel q) (value.Sequence s) is).others.1.0
  own_row q (value.IndexOf table) is = index_row q table is
  own_row q v is = elim (sound.each (key.Rel q) v is).own [ ]

  -- ---- the number of columns

  abbrev has_rel : QName → AttributeRow → Bool
  has_rel q a = same_oid (oids.of (key.Rel q)) a.attrelid

  abbrev number_of : QName → Column → ℤ
  number_of q c = oids.number q c.name

  few_columns : (q : QName) (columns : List Column) → get named (key.Rel q) ≡ Some (value.Table columns) → column_count cat (oids.of (key.Rel q)) ≤ length columns
  few_columns q columns is =
      let rows : List AttributeRow = filter (has_rel q) cat.pg_attribute in
      let counted : column_count cat (oids.of (key.Rel q)) ≡ length rows = count_rows (λ (a : AttributeRow). a.attrelid) (oids.of (key.Rel q)) cat.pg_attribute in
      let most : length (map (λ (a : AttributeRow). a.attnum) rows) ≤ length (map (number_of q) columns) = length-le_from_is_member int_eq_equiv (map (λ (a : AttributeRow). a.attnum) rows) (map (number_of q) columns) (distinct_of int_eq (λ (a : AttributeRow). a.attnum) rows apart) members in
      let one = length-map rows (λ (a : AttributeRow). a.attnum) in
      let two = length-map columns (number_of q) in
      omega (arith, counted, most, one, two)
    where
      in_table : (a : AttributeRow) → has_rel q a ≡ true → is_of_table cat a ≡ true
      in_table a e =
          ap (λ (n : ℕ). is_table (kind_of cat.pg_class n)) (sym (tie nat_cmp-IsAntisymmetric (oids.of (key.Rel q)) a.attrelid e)) ∙ ap is_table (kind_found texts named sound oids.of own cat led q (value.Table columns) is)

      thing : (a : AttributeRow) → IsIn a (filter (is_of_table cat) cat.pg_attribute) → has_rel q a ≡ true → (c : NamedColumn) × IsColumn named c × IsColumnRow oids c a × (c.table ≡ q) × (c.columns ≡ columns)
      thing a among e =
          let one = have.columns.only a (in_place (filter (is_of_table cat) cat.pg_attribute) a among) in
          let equal : oids.of (key.Rel one.0.table) ≡ oids.of (key.Rel q) = sym (tie nat_cmp-IsAntisymmetric (oids.of (key.Rel q)) a.attrelid e ∙ one.2.relation) in
          let keys : key.Rel one.0.table ≡ key.Rel q = own.apart (key.Rel one.0.table) (key.Rel q) (value.Table one.0.columns) (value.Table columns) one.1.there is refl refl refl equal in
          let tables : one.0.table ≡ q = cc in
          let lists : Some (value.Table one.0.columns) ≡ Some (value.Table columns) = sym one.1.there ∙ ap (get named) keys ∙ is in
          let same : one.0.columns ≡ columns = cc in
          (one.0, one.1, one.2, tables, same)

      apart : Pairs (λ a b. int_eq a.attnum b.attnum ≡ false) (filter (has_rel q) cat.pg_attribute)
      apart =
          subst (Pairs (λ (a b : AttributeRow). int_eq a.attnum b.attnum ≡ false)) (sym (twice_filtered (has_rel q) (is_of_table cat) in_table cat.pg_attribute))
          (pairs_filter (λ (a b : AttributeRow). int_eq a.attnum b.attnum ≡ false) (has_rel q) (filter (is_of_table cat) cat.pg_attribute)
          (pairs_of (λ (a b : AttributeRow). has_rel q a ≡ true → has_rel q b ≡ true → int_eq a.attnum b.attnum ≡ false) (filter (is_of_table cat) cat.pg_attribute) two))
        where
          two : (i j : ℕ) (a b : AttributeRow) → i < j → slice_get (filter (is_of_table cat) cat.pg_attribute) i ≡ Some a → slice_get (filter (is_of_table cat) cat.pg_attribute) j ≡ Some b → has_rel q a ≡ true → has_rel q b ≡ true → int_eq a.attnum b.attnum ≡ false
          two i j a b below at_a at_b rel_a rel_b = by (int_eq a.attnum b.attnum) refl
            where
              by : (x : Bool) → int_eq a.attnum b.attnum ≡ x → x ≡ false
              by false e = refl
              by true e =
                  let c = thing a (place_in (filter (is_of_table cat) cat.pg_attribute) i a at_a) rel_a in
                  let d = thing b (place_in (filter (is_of_table cat) cat.pg_attribute) j b at_b) rel_b in
                  let same : oids.number c.0.table c.0.column.name ≡ oids.number d.0.table d.0.column.name = sym c.2.number ∙ (Decides-int_eq a.attnum b.attnum).0 e ∙ d.2.number in
                  let things = one_column texts named sound oids own numbers cat led have.columns c.0 d.0 c.1 d.1 (c.3 ∙ sym d.3) same in
                  absurd (have.columns.once i j a b c.0 below at_a at_b c.2 (subst (λ (x : NamedColumn). IsColumnRow oids x b) (sym things) d.2))

      members : (n : ℤ) → list_any (int_eq n) (map (λ (a : AttributeRow). a.attnum) (filter (has_rel q) cat.pg_attribute)) ≡ true → list_any (int_eq n) (map (number_of q) columns) ≡ true
      members n e =
          let at = any_mapped (int_eq n) (λ (a : AttributeRow). a.attnum) (filter (has_rel q) cat.pg_attribute) e in
          let inside = from_filter (has_rel q) cat.pg_attribute at.0 at.1 in
          let c = thing at.0 (in_filter (is_of_table cat) cat.pg_attribute at.0 inside.0 (in_table at.0 inside.1)) inside.1 in
          let place : slice_get columns c.0.place ≡ Some c.0.column = ap (λ (cs : List Column). slice_get cs c.0.place) (sym c.4) ∙ c.1.at in
          let number : at.0.attnum ≡ oids.number q c.0.column.name = c.2.number ∙ ap (λ (p : QName). oids.number p c.0.column.name) c.3 in
          mapped_any (int_eq n) (number_of q) columns c.0.column (place_in columns c.0.place c.0.column place) (ap (int_eq n) (sym number) ∙ at.2)

  columns_inside : (q : QName) (v : Value) → get named (key.Rel q) ≡ Some v → columns_left_out cat (kind_at v) (oids.of (key.Rel q)) ≡ None
  columns_inside q (value.Table columns) is =
      let count : length columns ≤ 1600 = within_most (length columns) 1600 (sound.each (key.Rel q) (value.Table columns) is).own.count in
      let few = few_columns q columns is in
      let below : column_count cat (oids.of (key.Rel q)) ≤ 1600 = omega (arith, count, few) in
      ap (λ (b : Bool). if b then Some what.Columns else None) (not_over (column_count cat (oids.of (key.Rel q))) 1600 below)
  columns_inside q value.View is = refl
  columns_inside q (value.Sequence s) is = refl
  columns_inside q (value.IndexOf table) is = refl
  columns_inside q v is = elim (sound.each (key.Rel q) v is).own [ ]

  -- ---- all of it

  known_kind : (t : NamedRelation) → IsRelation named t → kind_left_out (kind_at t.relation) ≡ None
  known_kind t is = by t.relation is
    where
      by : (v : Value) → get named (key.Rel t.path) ≡ Some v → kind_left_out (kind_at v) ≡ None
      by (value.Table columns) is = refl
      by value.View is = refl
      by (value.Sequence s) is = refl
      by (value.IndexOf table) is = refl
      by v is = elim (sound.each (key.Rel t.path) v is).own [ ]

  there : (t : NamedRelation) (row : ClassRow) → IsRelation named t → IsRelationRow named oids.of t row → is_there cat row ≡ true
  there t row is at =
      let o = owning t.path t.relation row is at.kind in
      let schema : has_oid (schema_oids cat.pg_namespace) row.relnamespace ≡ true = ap (has_oid (schema_oids cat.pg_namespace)) at.schema ∙ has_schema_oid texts named sound oids.of own cat led t.path.schema (sound.each (key.Rel t.path) t.relation is).others.0 in
      let role : is_role cat.pg_authid row.relowner ≡ true = ap (is_role cat.pg_authid) o.owner ∙ is_role_met texts named sound oids.of own cat.pg_authid led.roles o.role o.met in
      let its : has_own_row cat (relation_kind row.relkind) row.oid ≡ true = (λ i. has_own_row cat (kind_so texts named sound oids.of own cat led t.path t.relation row at.kind i) (at.oid i)) ∙ own_row t.path t.relation is in
      rw (schema, role, its) refl

  good_rights : (t : NamedRelation) (row : ClassRow) → IsRelation named t → IsRelationRow named oids.of t row → is_bad_relation_acl (relation_kind row.relkind) cat.pg_authid row.relacl ≡ false
  good_rights t row is at =
      ap (λ (k : RelationKind). is_bad_relation_acl k cat.pg_authid row.relacl) (kind_so texts named sound oids.of own cat led t.path t.relation row at.kind) ∙ (owning t.path t.relation row is at.kind).good

  inside : (t : NamedRelation) (row : ClassRow) → IsRelation named t → IsRelationRow named oids.of t row → relation_left_out cat row ≡ None
  inside t row is at =
      let o = owning t.path t.relation row is at.kind in
      let kind = kind_so texts named sound oids.of own cat led t.path t.relation row at.kind in
      let of_kind : kind_left_out (relation_kind row.relkind) ≡ None = ap kind_left_out kind ∙ known_kind t is in
      let permanent : persistence_left_out row.relpersistence ≡ None = ap persistence_left_out at.permanent in
      let owner : role_name cat.pg_authid row.relowner ≡ Some o.role = ap (role_name cat.pg_authid) o.owner ∙ named_there texts named sound oids.of own cat.pg_authid led.roles o.role o.met in
      let granted : other_left_out (is_by_other (role_name cat.pg_authid row.relowner) row.relacl) ≡ None = ap (λ (r : Option Bytes). other_left_out (is_by_other r row.relacl)) owner ∙ ap other_left_out o.granted in
      let columns : columns_left_out cat (relation_kind row.relkind) row.oid ≡ None = (λ i. columns_left_out cat (kind i) (at.oid i)) ∙ columns_inside t.path t.relation is in
      rw (of_kind, permanent, granted, columns) refl

  pub relations_meet : Meets relation_rules cat cat.pg_class
  relations_meet = record {
    oids = distinct_keys (IsRelation named) (IsRelationRow named oids.of) cat.pg_class led.relations nat_cmp (λ r. Some r.oid) same_key;
    names = distinct_keys (IsRelation named) (IsRelationRow named oids.of) cat.pg_class led.relations name_cmp (λ r. Some (r.relnamespace, 0, pos 0, r.relname)) same_name;
    places = no_keys place_cmp cat.pg_class;
    marks = no_marks cat.pg_class;
    objects = each_row (IsRelation named) (IsRelationRow named oids.of) cat.pg_class led.relations (λ row. is_no_oid row.oid ≡ false) (λ t row is at. ap is_no_oid at.oid ∙ own.some (key.Rel t.path) t.relation is refl);
    there = each_row (IsRelation named) (IsRelationRow named oids.of) cat.pg_class led.relations (λ row. not (is_there cat row) ≡ false) (λ t row is at. ap not (there t row is at));
    texts = each_row (IsRelation named) (IsRelationRow named oids.of) cat.pg_class led.relations (λ row. is_bad_relation_acl (relation_kind row.relkind) cat.pg_authid row.relacl ≡ false) good_rights;
    inside = each_row (IsRelation named) (IsRelationRow named oids.of) cat.pg_class led.relations (λ row. relation_left_out cat row ≡ None) inside;
    needed = refl;
  }
