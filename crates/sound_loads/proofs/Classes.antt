-- Relations of well-formed tables by their oids and paths, and what stands at their keys.
use Rattle.std.proofs.Common.{◌≡◌, ℕ, Bool, true, false, cond, not, ◌||◌, ◌&&◌, Option, Some, None, refl, sym, ap, subst, ◌∙◌, inl, inr, arith}
use Rattle.std.proofs.lemmas.Bool.{and_parts, and_from, or_parts}
use Rattle.std.proofs.lemmas.Bool.Decides.{nat_tests}
use Rattle.std.specs.Prelude.{◌==◌}
use Rattle.std.specs.FinMap.{nat_cmp-IsAntisymmetric}
use Rattle.std.specs.List.{find, filter}
use Rattle.std.specs.Option.{option_map, option_and_then, option_or}
use Rattle.std.specs.Ordering.{nat_cmp}
use Rattle.cat_rows.specs.declared.catalogue.Catalogue.{Catalogue}
use Rattle.cat_rows.specs.declared.constraints.ConstraintRow.{ConstraintRow}
use Rattle.cat_rows.specs.declared.relations.ClassRow.{ClassRow}
use Rattle.cat_rows.specs.declared.relations.IndexRow.{IndexRow}
use Rattle.cat_rows.specs.declared.sequences.SequenceRow.{SequenceRow}
use Rattle.cat_model.specs.declared.constraint.SequenceKind.{SequenceKind}
use Rattle.cat_model.specs.declared.key.Key.TheVariants as key
use Rattle.cat_model.specs.declared.object.QName.{QName}
use Rattle.cat_model.specs.declared.value.Value.{Value}
use Rattle.cat_model.specs.declared.value.Value.TheVariants as value
use Rattle.cat_model.specs.declared.words.What.{What}
use Rattle.cat_model.specs.Values.{Bytes}
use Rattle.cat_names.specs.declared.relations.RelationKind.{RelationKind}
use Rattle.cat_names.specs.declared.relations.RelationKind.TheVariants.{Table, View, Sequence, Index, Other}
use Rattle.cat_names.specs.Findings.{left_out_first}
use Rattle.cat_names.specs.Kinds.{relation_kind, class_of, kind_of, is_table, is_view, is_sequence, is_index}
use Rattle.cat_names.specs.Lookups.{same_oid, is_no_oid, has_oid, schema_oids, is_role, role_name}
use Rattle.cat_names.specs.Naming.{Entry}
use Rattle.cat_book.specs.Leads.{is_key, key_indexes, index_oids, has_own_row}
use Rattle.cat_book.specs.Paths.{class_path, class_path_of}
use Rattle.row_texts.specs.SequenceTypes.{sequence_kind}
use Rattle.text_tables.specs.Sequences.{numbers, has_good_numbers}
use Rattle.text_tables.specs.Sequences as sequences
use Rattle.text_tables.specs.Indexes as indexes
use Rattle.plain_tables.specs.Relations as relations
use Rattle.constraint_table.specs.Table as constraints
use Rattle.well_formed.specs.Formed.{IsWellFormed}
use Rattle.cat_lookups.specs.Found.{table_of_key, table_of_index}
use Rattle.cat_naming.specs.Relations.{RowsByOid, columns_of, sequence_entries}
use Rattle.cat_sound.proofs.Lists.{IsIn}
use Rattle.sound_rows.specs.Rows.{IsAmong}
use Rattle.sound_rows.proofs.Among.{each_in, has_found, find_found, found_find, in_place, place_in, of_filter, in_flat}
use Rattle.sound_rows.proofs.Paths.{oid_tied, one_of_oid, one_path, path_there}
use Rattle.sound_rows.proofs.Roles.{same_oid-equal, role_is_named}
use Rattle.sound_loads.specs.Origins.{Origin, IsRelation}
use Rattle.sound_loads.proofs.Entries.{path_in, value_in}
use Rattle.sound_loads.proofs.Origins.{entries_by}
use Rattle.sound_loads.proofs.Standing.{IsThere, there, of_class, of_sequences}

pub not_false : (b : Bool) → not b ≡ false → b ≡ true
not_false true e = refl
not_false false e = absurd cc

-- a key's letter isn't a check's
key_no_check : (n : ℕ) → (n == 112 || n == 117) ≡ true → (n == 99) ≡ true → ⊥
key_no_check n e f = absurd (grind (arith, nat_tests))

-- ---- kinds

pub table_kind : (k : RelationKind) → is_table (Some k) ≡ true → k ≡ Table
table_kind Table e = refl
table_kind View e = absurd cc
table_kind Sequence e = absurd cc
table_kind Index e = absurd cc
table_kind (Other l) e = absurd cc

pub view_kind : (k : RelationKind) → is_view (Some k) ≡ true → k ≡ View
view_kind View e = refl
view_kind Table e = absurd cc
view_kind Sequence e = absurd cc
view_kind Index e = absurd cc
view_kind (Other l) e = absurd cc

sequence_kind_is : (k : RelationKind) → is_sequence (Some k) ≡ true → k ≡ Sequence
sequence_kind_is Sequence e = refl
sequence_kind_is Table e = absurd cc
sequence_kind_is View e = absurd cc
sequence_kind_is Index e = absurd cc
sequence_kind_is (Other l) e = absurd cc

pub index_kind : (k : RelationKind) → is_index (Some k) ≡ true → k ≡ Index
index_kind Index e = refl
index_kind Table e = absurd cc
index_kind View e = absurd cc
index_kind Sequence e = absurd cc
index_kind (Other l) e = absurd cc

none_first : (a b : Option What) → left_out_first a b ≡ None → a ≡ None
none_first None b e = refl
none_first (Some what) b e = absurd cc

module _ (cat : Catalogue) where
  -- ---- by oids

  -- the relation of an oid
  pub record IsClass (oid : ℕ) : Type 0 where
    pub row : ClassRow
    pub among : IsAmong row cat.pg_class
    pub same : oid ≡ row.oid
    pub found : class_of cat.pg_class oid ≡ Some row

  abbrev class_found : (oid : ℕ) → (row : ClassRow) → class_of cat.pg_class oid ≡ Some row → IsClass oid
  class_found oid row is =
      let found = find_found (λ (r : ClassRow). same_oid oid r.oid) cat.pg_class row is in
      record { row = row; among = found.0; same = same_oid-equal oid row.oid found.1; found = is }

  -- a path that an oid leads to is that of its relation
  pub record IsAtPath (oid : ℕ) (q : QName) : Type 0 where
    pub class : IsClass oid
    pub path : class_path cat.pg_namespace class.row ≡ Some q

  pub at_path : (oid : ℕ) (q : QName) → class_path_of cat oid ≡ Some q → IsAtPath oid q
  at_path oid q e = by (class_of cat.pg_class oid) refl e
    where
      by : (o : Option ClassRow) → class_of cat.pg_class oid ≡ o → option_and_then (class_path cat.pg_namespace) o ≡ Some q → IsAtPath oid q
      by None is h = absurd cc
      by (Some row) is h = record { class = class_found oid row is; path = h }

  -- an oid with a kind leads to a relation of it
  pub of_kind : (test : Option RelationKind → Bool) → test None ≡ false → (oid : ℕ) → test (kind_of cat.pg_class oid) ≡ true → (c : IsClass oid) × (test (Some (relation_kind c.row.relkind)) ≡ true)
  of_kind test none oid e = by (class_of cat.pg_class oid) refl e
    where
      by : (o : Option ClassRow) → class_of cat.pg_class oid ≡ o → test (option_map (λ r. relation_kind r.relkind) o) ≡ true → (c : IsClass oid) × (test (Some (relation_kind c.row.relkind)) ≡ true)
      by None is h = absurd cc
      by (Some row) is h = (class_found oid row is, h)

  module _ (well : IsWellFormed cat) where
    -- ---- one relation of one path

    pub one_class : (q : QName) (a b : ClassRow) → IsAmong a cat.pg_class → IsAmong b cat.pg_class → class_path cat.pg_namespace a ≡ Some q → class_path cat.pg_namespace b ≡ Some q → a ≡ b
    one_class q a b among other pa pb = one_path cat.pg_namespace well.schemas.names (λ (c : ClassRow). c.oid) (λ (c : ClassRow). c.relnamespace) (λ (c : ClassRow). c.relname) cat.pg_class well.relations.names a b q among other pa pb

    -- a relation is the one that its oid leads to
    pub own_class : (c : ClassRow) → IsAmong c cat.pg_class → class_of cat.pg_class c.oid ≡ Some c
    own_class c among =
        let found = found_find (λ (r : ClassRow). same_oid c.oid r.oid) cat.pg_class c among (oid_tied c.oid) in
        let at = class_found c.oid found.0 found.1 in
        let same : found.0 ≡ c = sym (one_of_oid (λ (r : ClassRow). r.oid) cat.pg_class well.relations.oids c found.0 among at.among at.same) in
        found.1 ∙ ap (λ (r : ClassRow). Some r) same

    pub own_path : (c : ClassRow) → IsAmong c cat.pg_class → (q : QName) → class_path cat.pg_namespace c ≡ Some q → class_path_of cat c.oid ≡ Some q
    own_path c among q path = ap (option_and_then (class_path cat.pg_namespace)) (own_class c among) ∙ path

    -- ---- what a relation's row needs

    row_there : (c : ClassRow) → IsAmong c cat.pg_class → relations.is_there cat c ≡ true
    row_there c among = not_false _ (each_in (λ (r : ClassRow). not (relations.is_there cat r) ≡ false) cat.pg_class well.relations.there c among)

    pub path_of_class : (c : ClassRow) → IsAmong c cat.pg_class → (q : QName) × (class_path cat.pg_namespace c ≡ Some q)
    path_of_class c among = path_there cat.pg_namespace c.relnamespace c.relname (and_parts (has_oid (schema_oids cat.pg_namespace) c.relnamespace) _ (row_there c among)).0

    pub owner_of_class : (c : ClassRow) → IsAmong c cat.pg_class → (owner : Bytes) × (role_name cat.pg_authid c.relowner ≡ Some owner)
    owner_of_class c among =
        let parts = and_parts (has_oid (schema_oids cat.pg_namespace) c.relnamespace) (is_role cat.pg_authid c.relowner && has_own_row cat (relation_kind c.relkind) c.oid) (row_there c among) in
        role_is_named cat.pg_authid c.relowner (and_parts (is_role cat.pg_authid c.relowner) (has_own_row cat (relation_kind c.relkind) c.oid) parts.1).0

    pub own_row : (c : ClassRow) → IsAmong c cat.pg_class → has_own_row cat (relation_kind c.relkind) c.oid ≡ true
    own_row c among =
        let parts = and_parts (has_oid (schema_oids cat.pg_namespace) c.relnamespace) (is_role cat.pg_authid c.relowner && has_own_row cat (relation_kind c.relkind) c.oid) (row_there c among) in
        (and_parts (is_role cat.pg_authid c.relowner) (has_own_row cat (relation_kind c.relkind) c.oid) parts.1).1

    -- the path of a table, by its oid
    pub table_path : (oid : ℕ) → is_table (kind_of cat.pg_class oid) ≡ true → (q : QName) × (class_path_of cat oid ≡ Some q)
    table_path oid e =
        let c = of_kind is_table refl oid e in
        let path = path_of_class c.0.row c.0.among in
        (path.0, ap (option_and_then (class_path cat.pg_namespace)) c.0.found ∙ path.1)

    -- ---- the tables of indexes

    index_row_there : (i : IndexRow) → IsAmong i cat.pg_index → indexes.is_there cat i ≡ true
    index_row_there i among = not_false _ (each_in (λ (r : IndexRow). not (indexes.is_there cat r) ≡ false) cat.pg_index well.indexes.there i among)

    pub constraint_there : (c : ConstraintRow) → IsAmong c cat.pg_constraint → constraints.is_there cat c ≡ true
    constraint_there c among = not_false _ (each_in (λ (r : ConstraintRow). not (constraints.is_there cat r) ≡ false) cat.pg_constraint well.constraints.there c among)

    pub constraint_good : (c : ConstraintRow) → IsAmong c cat.pg_constraint → constraints.is_bad_constraint cat c ≡ false
    constraint_good c among = each_in (λ (r : ConstraintRow). constraints.is_bad_constraint cat r ≡ false) cat.pg_constraint well.constraints.texts c among

    -- a key has a table
    key_table : (c : ConstraintRow) → IsAmong c cat.pg_constraint → is_key c ≡ true → is_table (kind_of cat.pg_class c.conrelid) ≡ true
    key_table c among key =
        let placed = not_false _ (or_parts (not (constraints.is_placed c)) _ (constraint_good c among)).0 in
        let table_or_none = (and_parts (constraints.is_table_or_none cat c.conrelid) _ (constraint_there c among)).0 in
        by (is_no_oid c.contypid) placed table_or_none
      where
        by_table : (b : Bool) → not b ≡ true → (b || is_table (kind_of cat.pg_class c.conrelid)) ≡ true → is_table (kind_of cat.pg_class c.conrelid) ≡ true
        by_table true n h = absurd cc
        by_table false n h = h

        by : (b : Bool) → cond b (not (is_no_oid c.conrelid)) (is_no_oid c.conrelid && constraints.is_check c) ≡ true → (is_no_oid c.conrelid || is_table (kind_of cat.pg_class c.conrelid)) ≡ true → is_table (kind_of cat.pg_class c.conrelid) ≡ true
        by true h t = by_table (is_no_oid c.conrelid) h t
        by false h t = absurd (key_no_check c.contype key (and_parts (is_no_oid c.conrelid) (constraints.is_check c) h).1)

    -- the first row of a key that has this index
    of_keys : (oid : ℕ) → has_oid (key_indexes cat) oid ≡ true → (q : QName) × (option_and_then (class_path_of cat) (table_of_key cat oid) ≡ Some q)
    of_keys oid e =
        let has = has_found nat_cmp nat_cmp-IsAntisymmetric (λ (c : ConstraintRow). c.conindid) (filter is_key cat.pg_constraint) oid e in
        let kept = of_filter is_key cat.pg_constraint has.0 (in_place (filter is_key cat.pg_constraint) has.0 has.1) in
        let tied : same_oid oid has.0.conindid ≡ true = subst (λ (n : ℕ). same_oid oid n ≡ true) (sym has.2) (oid_tied oid) in
        let first = found_find (λ (c : ConstraintRow). is_key c && same_oid oid c.conindid) cat.pg_constraint has.0 (place_in cat.pg_constraint has.0 kept.0) (and_from (is_key has.0) (same_oid oid has.0.conindid) kept.1 tied) in
        let found = find_found (λ (c : ConstraintRow). is_key c && same_oid oid c.conindid) cat.pg_constraint first.0 first.1 in
        let path = table_path first.0.conrelid (key_table first.0 found.0 (and_parts (is_key first.0) (same_oid oid first.0.conindid) found.1).0) in
        (path.0, ap (λ (o : Option ConstraintRow). option_and_then (class_path_of cat) (option_map (λ (c : ConstraintRow). c.conrelid) o)) first.1 ∙ path.1)

    -- an index has a table, by its own row or by its key's
    pub index_table : (c : ClassRow) → IsAmong c cat.pg_class → relation_kind c.relkind ≡ Index → (q : QName) × (option_and_then (class_path_of cat) (table_of_index cat c.oid) ≡ Some q)
    index_table c among is =
        by (find (λ (i : IndexRow). same_oid c.oid i.indexrelid) cat.pg_index) refl (subst (λ k. has_own_row cat k c.oid ≡ true) is (own_row c among))
      where
        own : (i : IndexRow) → find (λ (i : IndexRow). same_oid c.oid i.indexrelid) cat.pg_index ≡ Some i → (q : QName) × (class_path_of cat i.indrelid ≡ Some q)
        own i is =
            let found = find_found (λ (i : IndexRow). same_oid c.oid i.indexrelid) cat.pg_index i is in
            table_path i.indrelid (and_parts (is_index (kind_of cat.pg_class i.indexrelid)) (is_table (kind_of cat.pg_class i.indrelid)) (index_row_there i found.0)).1

        none : find (λ (i : IndexRow). same_oid c.oid i.indexrelid) cat.pg_index ≡ None → (b : Bool) → has_oid (index_oids cat) c.oid ≡ b → (b || has_oid (key_indexes cat) c.oid) ≡ true → has_oid (key_indexes cat) c.oid ≡ true
        none is false e h = h
        none is true e h =
            let has = has_found nat_cmp nat_cmp-IsAntisymmetric (λ (i : IndexRow). i.indexrelid) cat.pg_index c.oid e in
            let tied : same_oid c.oid has.0.indexrelid ≡ true = subst (λ (n : ℕ). same_oid c.oid n ≡ true) (sym has.2) (oid_tied c.oid) in
            let first = found_find (λ (i : IndexRow). same_oid c.oid i.indexrelid) cat.pg_index has.0 has.1 tied in
            absurd (let no = first.1 in cc)

        by : (o : Option IndexRow) → find (λ (i : IndexRow). same_oid c.oid i.indexrelid) cat.pg_index ≡ o → (has_oid (index_oids cat) c.oid || has_oid (key_indexes cat) c.oid) ≡ true
            → (q : QName) × (option_and_then (class_path_of cat) (option_or (option_map (λ (i : IndexRow). i.indrelid) o) (table_of_key cat c.oid)) ≡ Some q)
        by (Some i) found has = own i found
        by None found has = of_keys c.oid (none found (has_oid (index_oids cat) c.oid) refl has)

    -- ---- what stands at the key of a relation

    pub record SequenceAt (c : ClassRow) (v : Value) : Type 0 where
      pub row : SequenceRow
      pub among : IsAmong row cat.pg_sequence
      pub same : row.seqrelid ≡ c.oid
      pub kind : SequenceKind
      pub of : sequence_kind row.seqtype ≡ Some kind
      pub is : value.Sequence (numbers kind row) ≡ v

    abbrev pub RelationAt : ClassRow → RelationKind → Value → Type 0
    RelationAt c Table v = value.Table (columns_of cat c.oid) ≡ v
    RelationAt c View v = value.View ≡ v
    RelationAt c Sequence v = SequenceAt c v
    RelationAt c Index v = IsRelation cat c Index v
    RelationAt c (Other letter) v = ⊥

    as_relation : (c : ClassRow) (k : RelationKind) (v : Value) → IsRelation cat c k v → RelationAt c k v
    as_relation c Table v is = is
    as_relation c View v is = is
    as_relation c Sequence v is = absurd is
    as_relation c Index v is = is
    as_relation c (Other letter) v is = absurd is

    pub sequence_row_there : (s : SequenceRow) → IsAmong s cat.pg_sequence → sequences.is_there cat s ≡ true
    sequence_row_there s among = not_false _ (each_in (λ (r : SequenceRow). not (sequences.is_there cat r) ≡ false) cat.pg_sequence well.sequences.there s among)

    -- the relation of a sequence's row is a sequence
    pub sequence_class : (s : SequenceRow) → IsAmong s cat.pg_sequence → (c : IsClass s.seqrelid) → relation_kind c.row.relkind ≡ Sequence
    sequence_class s among c =
        let counts = (and_parts (is_sequence (kind_of cat.pg_class s.seqrelid)) (sequences.is_owner_there cat s) (sequence_row_there s among)).0 in
        sequence_kind_is (relation_kind c.row.relkind) (ap (λ (o : Option ClassRow). is_sequence (option_map (λ r. relation_kind r.relkind) o)) (sym c.found) ∙ counts)

    pub relation_at : (rows : RowsByOid) (c : ClassRow) → IsAmong c cat.pg_class → (q : QName) → class_path cat.pg_namespace c ≡ Some q → (v : Value) → Origin cat rows (key.Rel q) v → RelationAt c (relation_kind c.relkind) v
    relation_at rows c among q path v (inl from) =
        subst (λ (d : ClassRow). RelationAt d (relation_kind d.relkind) v) (one_class q from.row c from.among among from.path path) (as_relation from.row (relation_kind from.row.relkind) v from.is)
    relation_at rows c among q path v (inr from) =
        let at = at_path from.row.seqrelid q from.path in
        let same : at.class.row ≡ c = one_class q at.class.row c at.class.among among at.path path in
        let is : relation_kind c.relkind ≡ Sequence = ap (λ (r : ClassRow). relation_kind r.relkind) (sym same) ∙ sequence_class from.row from.among at.class in
        subst (λ k. RelationAt c k v) (sym is) (record { row = from.row; among = from.among; same = at.class.same ∙ ap (λ (r : ClassRow). r.oid) same; kind = from.kind; of = from.of; is = from.is })

    -- a sequence's row has a type of sequences, and numbers that fit it
    pub kind_of_sequence : (s : SequenceRow) → IsAmong s cat.pg_sequence → (kind : SequenceKind) × (sequence_kind s.seqtype ≡ Some kind)
    kind_of_sequence s among = by (sequence_kind s.seqtype) refl (not_false _ (each_in (λ (r : SequenceRow). not (has_good_numbers (sequence_kind r.seqtype) r) ≡ false) cat.pg_sequence well.sequences.texts s among))
      where
        by : (o : Option SequenceKind) → sequence_kind s.seqtype ≡ o → has_good_numbers o s ≡ true → (kind : SequenceKind) × (sequence_kind s.seqtype ≡ Some kind)
        by None is h = absurd cc
        by (Some kind) is h = (kind, is)

    module _ (rows : RowsByOid) (c : ClassRow) (among : IsAmong c cat.pg_class) (q : QName) (path : class_path cat.pg_namespace c ≡ Some q) where
      -- an entry of the relation, by its kind
      pub entry_there : (k : RelationKind) → relation_kind c.relkind ≡ k → (e : Entry) → IsIn e (entries_by cat rows c q k) → IsThere cat rows e.0
      entry_there k is e here = there cat rows e.0 e.1 (of_class cat rows c among q path e (subst (λ l. IsIn e (entries_by cat rows c q l)) (sym is) here))

      sequence_there : relation_kind c.relkind ≡ Sequence → IsThere cat rows (key.Rel q)
      sequence_there is =
          let has = has_found nat_cmp nat_cmp-IsAntisymmetric (λ (s : SequenceRow). s.seqrelid) cat.pg_sequence c.oid (subst (λ k. has_own_row cat k c.oid ≡ true) is (own_row c among)) in
          let at : class_path_of cat has.0.seqrelid ≡ Some q = ap (class_path_of cat) has.2 ∙ own_path c among q path in
          let kind = kind_of_sequence has.0 has.1 in
          let v : Value = value.Sequence (numbers kind.0 has.0) in
          there cat rows (key.Rel q) v (of_sequences cat rows _ (in_flat (sequence_entries cat) cat.pg_sequence has.0 _ has.1
          (path_in _ (class_path_of cat has.0.seqrelid) _ q at (value_in _ (option_map (λ k. value.Sequence (numbers k has.0)) (sequence_kind has.0.seqtype)) _ v (ap (option_map (λ k. value.Sequence (numbers k has.0))) kind.1) (inl refl)))))

      other_none : (letter : ℕ) → relation_kind c.relkind ≡ Other letter → ⊥
      other_none letter is =
          let none = each_in (λ (r : ClassRow). relations.relation_left_out cat r ≡ None) cat.pg_class well.relations.inside c among in
          let kind : relations.kind_left_out (relation_kind c.relkind) ≡ None = none_first (relations.kind_left_out (relation_kind c.relkind)) _ none in
          let no = ap relations.kind_left_out is in
          cc

      there_by : (k : RelationKind) → relation_kind c.relkind ≡ k → IsThere cat rows (key.Rel q)
      there_by Table is = entry_there Table is _ (inl refl)
      there_by View is = entry_there View is _ (inl refl)
      there_by Sequence is = sequence_there is
      there_by Index is =
          let table = index_table c among is in
          entry_there Index is (key.Rel q, value.IndexOf table.0) (path_in _ (option_and_then (class_path_of cat) (table_of_index cat c.oid)) _ table.0 table.1 (inl refl))
      there_by (Other letter) is = absurd (other_none letter is)

      pub relation_there : IsThere cat rows (key.Rel q)
      relation_there = there_by (relation_kind c.relkind) refl
