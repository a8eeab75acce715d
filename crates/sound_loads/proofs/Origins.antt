-- Each entry of a catalogue by names stands for a row.
use Rattle.std.proofs.Common.{◌≡◌, Bool, true, false, cond, List, [], ◌∷◌, Option, Some, None, refl, sym, ap, subst, inl, inr}
use Rattle.std.specs.List.{AllByRecursion, flat_map}
use Rattle.std.specs.Option.{option_map, option_and_then}
use Rattle.cat_rows.specs.declared.catalogue.Catalogue.{Catalogue}
use Rattle.cat_rows.specs.declared.roles.AuthidRow.{AuthidRow}
use Rattle.cat_rows.specs.declared.roles.AuthMembersRow.{AuthMembersRow}
use Rattle.cat_rows.specs.declared.roles.DatabaseRow.{DatabaseRow}
use Rattle.cat_rows.specs.declared.schemas.NamespaceRow.{NamespaceRow}
use Rattle.cat_rows.specs.declared.types.TypeRow.{TypeRow}
use Rattle.cat_rows.specs.declared.relations.ClassRow.{ClassRow}
use Rattle.cat_rows.specs.declared.relations.AttrdefRow.{AttrdefRow}
use Rattle.cat_rows.specs.declared.relations.IndexRow.{IndexRow}
use Rattle.cat_rows.specs.declared.relations.RewriteRow.{RewriteRow}
use Rattle.cat_rows.specs.declared.sequences.SequenceRow.{SequenceRow}
use Rattle.cat_rows.specs.declared.constraints.ConstraintRow.{ConstraintRow}
use Rattle.cat_rows.specs.declared.notes.DescriptionRow.{DescriptionRow}
use Rattle.cat_model.specs.declared.key.Key.TheVariants as key
use Rattle.cat_model.specs.declared.object.Object.{Object}
use Rattle.cat_model.specs.declared.constraint.SequenceKind.{SequenceKind}
use Rattle.cat_model.specs.declared.object.QName.{QName}
use Rattle.cat_model.specs.declared.value.Value.TheVariants as value
use Rattle.cat_names.specs.declared.relations.RelationKind.{RelationKind}
use Rattle.cat_names.specs.declared.relations.RelationKind.TheVariants.{Table, View, Sequence, Index, Other}
use Rattle.cat_names.specs.declared.rights.GrantKind.{GrantKind}
use Rattle.cat_names.specs.declared.rights.GrantKind.TheVariants as on
use Rattle.cat_names.specs.Kinds.{relation_kind, is_table, is_view, is_sequence, is_index}
use Rattle.cat_names.specs.Lookups.{role_name, is_no_oid}
use Rattle.cat_names.specs.Naming.{Entry, under, role_entries, member_entries, database_entries, schema_entries, cluster_entries}
use Rattle.cat_book.specs.Paths.{type_path, class_path, class_path_of}
use Rattle.row_texts.specs.DefaultTexts.{default_said}
use Rattle.row_texts.specs.IndexTexts.{index_said}
use Rattle.row_texts.specs.SequenceTypes.{sequence_kind}
use Rattle.row_texts.specs.ViewTexts.{view_body}
use Rattle.row_texts.specs.declared.index_text.IndexText.{IndexText}
use Rattle.text_tables.specs.Sequences.{numbers}
use Rattle.constraint_table.specs.Said.{statement_said}
use Rattle.cat_lookups.specs.Found.{column_name, table_of_index}
use Rattle.cat_naming.specs.Types.{type_entries, type_value, under_path, with_value}
use Rattle.cat_naming.specs.Relations.{RowsByOid, columns_of, class_entries, default_entries, sequence_entries, body_entries, owner_entries, table_entries, view_entries, owned_entries, index_relation_entries, relation_entries}
use Rattle.cat_naming.specs.Constraints.{constraint_entries, constraint_value, index_entries, said_entries}
use Rattle.cat_naming.specs.Comments.{comment_entries, commented_object, with_object}
use Rattle.cat_naming.specs.Entries.{object_entries, entries_of}
use Rattle.cat_sound.proofs.Lists.{of_each, all-append, all-flat}
use Rattle.sound_rows.specs.Rows.{IsAmong}
use Rattle.sound_rows.proofs.Among.{place_in}
use Rattle.sound_loads.specs.Origins.{Origin, IsRelation, grant_kind}
use Rattle.sound_loads.proofs.Entries.{under_all, path_all, value_all}

module _ (cat : Catalogue) (rows : RowsByOid) where
  abbrev Stands : Entry → Type 0
  Stands e = Origin cat rows e.0 e.1

  abbrev AllStand : List Entry → Type 0
  AllStand es = AllByRecursion Stands es

  -- ---- roles, memberships, databases and schemas

  roles_stand : (r : AuthidRow) → IsAmong r cat.pg_authid → AllStand (role_entries r)
  roles_stand r among = (record { row = r; among = among; same = refl; is = refl }, tt)

  members_stand : (m : AuthMembersRow) → IsAmong m cat.pg_auth_members → AllStand (member_entries cat.pg_authid m)
  members_stand m among =
      under_all Stands (role_name cat.pg_authid m.roleid) _ (λ role one.
      under_all Stands (role_name cat.pg_authid m.member) _ (λ member two.
      under_all Stands (role_name cat.pg_authid m.grantor) _ (λ grantor three.
      (record { row = m; among = among; of_role = one; of_member = two; by = three; is = refl }, tt))))

  databases_stand : (d : DatabaseRow) → IsAmong d cat.pg_database → AllStand (database_entries cat.pg_authid d)
  databases_stand d among =
      under_all Stands (role_name cat.pg_authid d.datdba) _ (λ owner owned. (
        record { row = d; among = among; same = refl; owner = owner; owned = owned; is = refl },
        (record { row = d; among = among; same = refl; owner = owner; owned = owned; is = refl }, tt),
      ))

  schemas_stand : (s : NamespaceRow) → IsAmong s cat.pg_namespace → AllStand (schema_entries cat.pg_authid s)
  schemas_stand s among =
      under_all Stands (role_name cat.pg_authid s.nspowner) _ (λ owner owned. (
        record { row = s; among = among; same = refl; owner = owner; owned = owned; is = refl },
        (
          record { row = s; among = among; same = refl; owner = owner; owned = owned; is = refl },
          (record { row = s; among = among; same = refl; owner = owner; owned = owned; is = refl }, tt),
        ),
      ))

  -- ---- types

  types_stand : (t : TypeRow) → IsAmong t cat.pg_type → AllStand (type_entries cat t)
  types_stand t among =
      path_all Stands (type_path cat.pg_namespace t) _ (λ q path.
      under_all Stands (role_name cat.pg_authid t.typowner) _ (λ owner owned.
      value_all Stands (type_value cat t) _ (λ v of. (
        record { row = t; among = among; path = path; owner = owner; owned = owned; value = v; of = of; is = refl },
        (
          record { row = t; among = among; path = path; owner = owner; owned = owned; value = v; of = of; is = refl },
          (record { row = t; among = among; path = path; owner = owner; owned = owned; value = v; of = of; is = refl }, tt),
        ),
      ))))

  -- ---- relations

  -- what a relation gives, by its kind
  abbrev pub entries_by : ClassRow → QName → RelationKind → List Entry
  entries_by c q k =
      cond (is_table (Some k)) (table_entries cat rows c q)
      (cond (is_view (Some k)) (view_entries cat c q)
      (cond (is_sequence (Some k)) (owned_entries cat on.Sequence c q)
      (cond (is_index (Some k)) (index_relation_entries cat c q) [])))

  module _ (c : ClassRow) (among : IsAmong c cat.pg_class) (q : QName) (path : class_path cat.pg_namespace c ≡ Some q) where
    owned_stand : (kind : GrantKind) → grant_kind cat (relation_kind c.relkind) ≡ Some kind → AllStand (owned_entries cat kind c q)
    owned_stand kind of_kind =
        under_all Stands (role_name cat.pg_authid c.relowner) _ (λ owner owned. (
          record { row = c; among = among; path = path; is = record { kind = kind; of_kind = of_kind; owner = owner; owned = owned; has = refl } },
          (record { row = c; among = among; path = path; is = record { kind = kind; of_kind = of_kind; owner = owner; owned = owned; has = refl } }, tt),
        ))

    stand_by : (k : RelationKind) → relation_kind c.relkind ≡ k → AllStand (entries_by c q k)
    stand_by Table is = (
      inl (record { row = c; among = among; path = path; is = subst (λ k. IsRelation cat c k (value.Table (columns_of cat c.oid))) (sym is) refl }),
      (record { row = c; among = among; path = path; is = record { of_kind = is; has = refl } }, owned_stand on.Table (ap (grant_kind cat) is)),
    )
    stand_by View is = (inl (record { row = c; among = among; path = path; is = subst (λ k. IsRelation cat c k value.View) (sym is) refl }), owned_stand on.Table (ap (grant_kind cat) is))
    stand_by Sequence is = owned_stand on.Sequence (ap (grant_kind cat) is)
    stand_by Index is =
        path_all Stands (option_and_then (class_path_of cat) (table_of_index cat c.oid)) _ (λ table of.
        (inl (record { row = c; among = among; path = path; is = subst (λ k. IsRelation cat c k (value.IndexOf table)) (sym is) (table, of, refl) }), tt))
    stand_by (Other letter) is = tt

  relations_stand : (c : ClassRow) → IsAmong c cat.pg_class → AllStand (class_entries cat rows c)
  relations_stand c among = path_all Stands (class_path cat.pg_namespace c) (relation_entries cat rows c) (λ q path. stand_by c among q path (relation_kind c.relkind) refl)

  -- ---- what belongs to relations

  defaults_stand : (d : AttrdefRow) → IsAmong d cat.pg_attrdef → AllStand (default_entries cat d)
  defaults_stand d among =
      path_all Stands (class_path_of cat d.adrelid) _ (λ table path.
      under_all Stands (column_name cat d.adrelid d.adnum) _ (λ column named.
      under_all Stands (default_said d.adexpr) _ (λ text said.
      (record { row = d; among = among; path = path; named = named; text = text; said = said; is = refl }, tt))))

  constraints_stand : (c : ConstraintRow) → IsAmong c cat.pg_constraint → AllStand (constraint_entries cat c)
  constraints_stand c among =
      path_all Stands (class_path_of cat c.conrelid) _ (λ table path.
      value_all Stands (option_and_then constraint_value (statement_said c.condef)) _ (λ v said.
      (record { row = c; among = among; path = path; same = refl; said = said }, tt)))

  indexes_stand : (i : IndexRow) → IsAmong i cat.pg_index → AllStand (index_entries i)
  indexes_stand i among = by (index_said i.indexdef) refl
    where
      by : (o : Option IndexText) → index_said i.indexdef ≡ o → AllStand (said_entries o)
      by None is = tt
      by (Some text) is = (record { row = i; among = among; text = text; said = is; path = refl; same = refl; is = refl }, tt)

  owning_stand : (s : SequenceRow) → IsAmong s cat.pg_sequence → (q : QName) → class_path_of cat s.seqrelid ≡ Some q → (kind : SequenceKind) → sequence_kind s.seqtype ≡ Some kind → AllStand (owner_entries cat s q)
  owning_stand s among q path kind of = by (is_no_oid s.ownrel) refl
    where
      by : (b : Bool) → is_no_oid s.ownrel ≡ b → AllStand (cond {A = List Entry} b [] (under_path (class_path_of cat s.ownrel) (λ table. under (column_name cat s.ownrel s.owncol) (λ column. (key.OwnedBy q, value.OwnedBy table column) ∷ []))))
      by true is = tt
      by false is =
          path_all Stands (class_path_of cat s.ownrel) _ (λ table at.
          under_all Stands (column_name cat s.ownrel s.owncol) _ (λ column named.
          (record { row = s; among = among; path = path; kind = kind; of = of; is = record { given = is; table = table; path = at; column = column; named = named; has = refl } }, tt)))

  sequences_stand : (s : SequenceRow) → IsAmong s cat.pg_sequence → AllStand (sequence_entries cat s)
  sequences_stand s among =
      path_all Stands (class_path_of cat s.seqrelid) _ (λ q path.
      by q path (sequence_kind s.seqtype) refl)
    where
      by : (q : QName) → class_path_of cat s.seqrelid ≡ Some q → (o : Option SequenceKind) → sequence_kind s.seqtype ≡ o → AllStand (with_value (option_map (λ kind. value.Sequence (numbers kind s)) o) (λ v. (key.Rel q, v) ∷ (key.SeqVal q, value.SequenceValue s.last_value s.is_called) ∷ owner_entries cat s q))
      by q path None of = tt
      by q path (Some kind) of = (
        inr (record { row = s; among = among; path = path; kind = kind; of = of; is = refl }),
        (record { row = s; among = among; path = path; kind = kind; of = of; is = refl }, owning_stand s among q path kind of),
      )

  bodies_stand : (r : RewriteRow) → IsAmong r cat.pg_rewrite → AllStand (body_entries cat r)
  bodies_stand r among =
      path_all Stands (class_path_of cat r.ev_class) _ (λ q path.
      under_all Stands (view_body r.viewdef) _ (λ text said.
      (record { row = r; among = among; path = path; text = text; said = said; is = refl }, tt)))

  comments_stand : (d : DescriptionRow) → IsAmong d cat.pg_description → AllStand (comment_entries cat d)
  comments_stand d among = by (commented_object cat d) refl
    where
      by : (o : Option Object) → commented_object cat d ≡ o → AllStand (with_object d o)
      by None is = tt
      by (Some o) is = (record { row = d; among = among; object = is; is = refl }, tt)

  -- ---- all of them

  table_stands : {R : Type 0} (f : R → List Entry) (table : List R) → ((r : R) → IsAmong r table → AllStand (f r)) → AllStand (flat_map f table)
  table_stands f table each = all-flat Stands f table (of_each (λ r. AllByRecursion Stands (f r)) table (λ r among. each r (place_in table r among)))

  objects_stand : AllStand (object_entries cat rows)
  objects_stand =
      all-append Stands _ _ (all-append Stands _ _ (all-append Stands _ _ (all-append Stands _ _ (all-append Stands _ _ (all-append Stands _ _ (all-append Stands _ _
      (table_stands (type_entries cat) cat.pg_type types_stand)
      (table_stands (class_entries cat rows) cat.pg_class relations_stand))
      (table_stands (default_entries cat) cat.pg_attrdef defaults_stand))
      (table_stands (constraint_entries cat) cat.pg_constraint constraints_stand))
      (table_stands index_entries cat.pg_index indexes_stand))
      (table_stands (sequence_entries cat) cat.pg_sequence sequences_stand))
      (table_stands (body_entries cat) cat.pg_rewrite bodies_stand))
      (table_stands (comment_entries cat) cat.pg_description comments_stand)

  cluster_stands : AllStand (cluster_entries cat)
  cluster_stands =
      all-append Stands _ _ (all-append Stands _ _ (all-append Stands _ _
      (table_stands role_entries cat.pg_authid roles_stand)
      (table_stands (member_entries cat.pg_authid) cat.pg_auth_members members_stand))
      (table_stands (database_entries cat.pg_authid) cat.pg_database databases_stand))
      (table_stands (schema_entries cat.pg_authid) cat.pg_namespace schemas_stand)

  pub entries_stand : AllByRecursion (λ (e : Entry). Origin cat rows e.0 e.1) (entries_of cat rows)
  entries_stand = all-append Stands (cluster_entries cat) (object_entries cat rows) cluster_stands objects_stand
