-- Tables, views, sequences and indexes of a loaded catalogue are in order, and so are bodies of views, columns that own
-- sequences, and the owners and grants of types.
use Rattle.std.proofs.Common.{◌≡◌, ℕ, Bool, true, false, cond, not, ◌&&◌, List, [], ◌∷◌, Option, Some, None, refl, sym, ap, subst, ◌∙◌, inl, inr}
use Rattle.std.proofs.lemmas.Bool.{and_parts}
use Rattle.std.specs.FinMap.{nat_cmp-IsAntisymmetric}
use Rattle.std.specs.List.{find, list_all}
use Rattle.std.specs.Option.{option_map, option_and_then, option_or}
use Rattle.std.specs.Cmp.{unsigned_ties}
use Rattle.std.specs.Ordering.{nat_cmp}
use Rattle.std.specs.Prelude.{◌==◌}
use Rattle.cat_rows.specs.declared.catalogue.Catalogue.{Catalogue}
use Rattle.cat_rows.specs.declared.constraints.ConstraintRow.{ConstraintRow}
use Rattle.cat_rows.specs.declared.relations.ClassRow.{ClassRow}
use Rattle.cat_rows.specs.declared.relations.IndexRow.{IndexRow}
use Rattle.cat_rows.specs.declared.relations.RewriteRow.{RewriteRow}
use Rattle.cat_rows.specs.declared.sequences.SequenceRow.{SequenceRow}
use Rattle.cat_rows.specs.declared.types.TypeRow.{TypeRow}
use Rattle.cat_model.specs.declared.key.Key.TheVariants as key
use Rattle.cat_model.specs.declared.object.Object.TheVariants as object
use Rattle.cat_model.specs.declared.object.QName.{QName}
use Rattle.cat_model.specs.declared.type_name.TypeName.{TypeName}
use Rattle.cat_model.specs.declared.value.Resolved.{Resolved}
use Rattle.cat_model.specs.declared.value.Value.{Value}
use Rattle.cat_model.specs.declared.value.Value.TheVariants as value
use Rattle.cat_model.specs.KeyEffects.{index_path}
use Rattle.cat_model.specs.Lexemes.{same_text}
use Rattle.cat_model.specs.References.{view_references}
use Rattle.cat_model.specs.Tables.{column_there, columns_there}
use Rattle.cat_model.specs.Values.{Bytes}
use Rattle.cat_names.specs.declared.relations.RelationKind.{RelationKind}
use Rattle.cat_names.specs.declared.relations.RelationKind.TheVariants.{Table, View, Sequence, Index, Other}
use Rattle.cat_names.specs.declared.rights.GrantKind.TheVariants as on
use Rattle.cat_names.specs.Grants.{grants_of}
use Rattle.cat_names.specs.Kinds.{relation_kind, kind_of, is_table, is_view}
use Rattle.cat_names.specs.Lookups.{same_oid, is_no_oid, role_name}
use Rattle.cat_book.specs.Chains.{is_domain_letter}
use Rattle.cat_book.specs.Leads.{is_key, has_own_row, has_number}
use Rattle.cat_book.specs.Paths.{class_path, class_path_of}
use Rattle.row_texts.specs.ViewTexts.{view_body}
use Rattle.text_tables.specs.Agreeing.{is_met as is_met_in}
use Rattle.row_texts.specs.SequenceTypes.{sequence_kind}
use Rattle.text_tables.specs.Sequences.{numbers}
use Rattle.text_tables.specs.Sequences as sequences
use Rattle.text_tables.specs.Views.{is_good_body}
use Rattle.well_formed.specs.Formed.{IsWellFormed}
use Rattle.type_ends.specs.Ends.{labels_of}
use Rattle.cat_lookups.specs.Found.{table_of_key, table_of_index}
use Rattle.cat_naming.specs.Entries.{catalogue_named}
use Rattle.cat_naming.specs.Relations.{RowsByOid, columns_of, body_entries, sequence_entries}
use Rattle.cat_naming.specs.Types.{type_value, typed, domain_of}
use Rattle.cat_sound.specs.Texts.{Texts}
use Rattle.cat_sound.specs.Asked.{Asked, Meets, HasRights, is_ownable}
use Rattle.cat_sound.specs.Rights.{rights_of}
use Rattle.cat_sound.specs.Sound.{IsMet, IsSoundAt}
use Rattle.cat_sound.proofs.Asking.{view_named}
use Rattle.sound_rows.specs.Granted.{all_rights}
use Rattle.sound_rows.specs.Rows.{IsAmong}
use Rattle.sound_rows.proofs.Among.{each_in, has_found, find_found, in_flat}
use Rattle.sound_rows.proofs.Grants.{granted}
use Rattle.sound_rows.proofs.Roles.{same_oid-equal}
use Rattle.sound_loads.specs.Origins.{Origin, OfType, OfSequence, IsRelation, grant_kind}
use Rattle.sound_loads.specs.Reads.{Reads}
use Rattle.sound_loads.proofs.Classes.{not_false, at_path, of_kind, own_path, own_row, RelationAt, sequence_class, relation_at, relation_there, entry_there, sequence_row_there, view_kind, table_kind}
use Rattle.sound_loads.proofs.Cluster.{owner_sound, grants_sound, other_owner, one_name}
use Rattle.sound_loads.proofs.Columns.{columns_ask, table_good, few_columns, column_numbered}
use Rattle.sound_loads.proofs.Entries.{under_in, path_in, value_in}
use Rattle.sound_loads.proofs.Keys.{index_says, key_row, table_of_own, table_of_own_key}
use Rattle.sound_loads.proofs.Needed.{references_there}
use Rattle.sound_loads.proofs.Relations.{schema_of_path, relation_owner_there, relation_grants_there, good_numbers, sequence_at, sequence_there}
use Rattle.sound_loads.proofs.Standing.{IsThere, there, met, is_met, role_of_oid, role_named, of_sequences, of_bodies, type_owner_there}
use Rattle.sound_loads.proofs.Types.{one_type, type_at, type_is_there, good_type}

module _ (texts : Texts) (cat : Catalogue) (rows : RowsByOid) (well : IsWellFormed cat) where
  -- ---- what stands at the path of an oid's relation

  -- a table that an oid leads to
  pub table_at : (oid : ℕ) → is_table (kind_of cat.pg_class oid) ≡ true → (q : QName) → class_path_of cat oid ≡ Some q → IsThere cat rows (key.Rel q) × ((v : Value) → Origin cat rows (key.Rel q) v → value.Table (columns_of cat oid) ≡ v)
  table_at oid e q path =
      let at = at_path cat oid q path in
      let c = of_kind cat is_table refl oid e in
      let same : at.class.row ≡ c.0.row = let both = sym at.class.found ∙ c.0.found in cc in
      let kind : relation_kind at.class.row.relkind ≡ Table = ap (λ (r : ClassRow). relation_kind r.relkind) same ∙ table_kind (relation_kind c.0.row.relkind) c.1 in (
        relation_there cat well rows at.class.row at.class.among q at.path,
        λ v from. ap (λ (n : ℕ). value.Table (columns_of cat n)) at.class.same ∙ subst (λ k. RelationAt cat well at.class.row k v) kind (relation_at cat well rows at.class.row at.class.among q at.path v from),
      )

  -- a column of a table that an oid leads to
  pub column_met : (oid : ℕ) → is_table (kind_of cat.pg_class oid) ≡ true → (q : QName) → class_path_of cat oid ≡ Some q → (names : List Bytes) → columns_there (columns_of cat oid) names ≡ true → IsMet (catalogue_named cat rows) (key.Rel q, Asked.has_columns names)
  column_met oid e q path names there =
      let at = table_at oid e q path in
      met cat rows (key.Rel q) (Asked.has_columns names) at.0 (λ v from. subst (Meets (Asked.has_columns names)) (at.1 v from) there)

  pub one_column : (oid : ℕ) (name : Bytes) → column_there (columns_of cat oid) name ≡ true → columns_there (columns_of cat oid) (name ∷ []) ≡ true
  one_column oid name e = rw e refl

  -- ---- columns that own sequences

  module _ (q : QName) (v : Value) where
    pub owning_sound : Origin cat rows (key.OwnedBy q) v → IsSoundAt texts (catalogue_named cat rows) (key.OwnedBy q) v
    owning_sound from =
        let own = from.is in
        let there = (and_parts _ (sequences.is_owner_there cat from.row) (sequence_row_there cat well from.row from.among)).1 in
        subst (IsSoundAt texts (catalogue_named cat rows) (key.OwnedBy q)) own.has (record {
          own = tt;
          others = (
            met cat rows (key.Rel q) Asked.a_sequence (sequence_there texts cat rows well q from) (λ w of. subst (Meets Asked.a_sequence) (sequence_at texts cat rows well q from w of).1 refl),
            (
              column_met from.row.ownrel (owned from.row own.given there) own.table own.path (own.column ∷ []) (one_column from.row.ownrel own.column (column_numbered cat well from.row.ownrel from.row.owncol own.column own.named)),
              tt,
            ),
          );
        })
      where
        by : (s : SequenceRow) (b : Bool) → b ≡ false → cond b true (is_table (kind_of cat.pg_class s.ownrel) && has_number cat s.ownrel s.owncol) ≡ true → is_table (kind_of cat.pg_class s.ownrel) ≡ true
        by s true e h = absurd cc
        by s false e h = (and_parts (is_table (kind_of cat.pg_class s.ownrel)) (has_number cat s.ownrel s.owncol) h).0

        owned : (s : SequenceRow) → is_no_oid s.ownrel ≡ false → sequences.is_owner_there cat s ≡ true → is_table (kind_of cat.pg_class s.ownrel) ≡ true
        owned s e h = by s (s.ownrel == 0) (unsigned_ties s.ownrel 0 ∙ e) h

  -- ---- bodies of views

  -- a view that an oid leads to
  view_at : (oid : ℕ) → is_view (kind_of cat.pg_class oid) ≡ true → (q : QName) → class_path_of cat oid ≡ Some q → IsThere cat rows (key.Rel q) × ((v : Value) → Origin cat rows (key.Rel q) v → value.View ≡ v)
  view_at oid e q path =
      let at = at_path cat oid q path in
      let c = of_kind cat is_view refl oid e in
      let same : at.class.row ≡ c.0.row = let both = sym at.class.found ∙ c.0.found in cc in
      let kind : relation_kind at.class.row.relkind ≡ View = ap (λ (r : ClassRow). relation_kind r.relkind) same ∙ view_kind (relation_kind c.0.row.relkind) c.1 in (
        relation_there cat well rows at.class.row at.class.among q at.path,
        λ v from. subst (λ k. RelationAt cat well at.class.row k v) kind (relation_at cat well rows at.class.row at.class.among q at.path v from),
      )

  body_row_there : (r : RewriteRow) → IsAmong r cat.pg_rewrite → is_view (kind_of cat.pg_class r.ev_class) ≡ true
  body_row_there r among = not_false _ (each_in (λ (x : RewriteRow). not (is_view (kind_of cat.pg_class x.ev_class)) ≡ false) cat.pg_rewrite well.views.there r among)

  body_row_good : (r : RewriteRow) → IsAmong r cat.pg_rewrite → is_good_body cat (view_body r.viewdef) ≡ true
  body_row_good r among = not_false _ (each_in (λ (x : RewriteRow). not (is_good_body cat (view_body x.viewdef)) ≡ false) cat.pg_rewrite well.views.texts r among)

  module _ (reads : Reads texts) (q : QName) (v : Value) where
    pub body_sound : Origin cat rows (key.Body q) v → IsSoundAt texts (catalogue_named cat rows) (key.Body q) v
    body_sound from =
        let at = view_at from.row.ev_class (body_row_there from.row from.among) q from.path in
        let met_all : list_all (is_met_in cat None) (view_references from.text) ≡ true = ap (is_good_body cat) (sym from.said) ∙ body_row_good from.row from.among in
        subst (IsSoundAt texts (catalogue_named cat rows) (key.Body q)) from.is (record {
          own = reads.bodies from.row.viewdef from.text from.said;
          others = (
            met cat rows (key.Rel q) Asked.a_view at.0 (λ w of. subst (Meets Asked.a_view) (at.1 w of) refl),
            references_there cat rows well None (view_references from.text) (view_named from.text) met_all,
          );
        })

  -- the body of a view is there
  body_there : (c : ClassRow) → IsAmong c cat.pg_class → (q : QName) → class_path cat.pg_namespace c ≡ Some q → relation_kind c.relkind ≡ View → IsThere cat rows (key.Body q)
  body_there c among q path is =
      let has = has_found nat_cmp nat_cmp-IsAntisymmetric (λ (r : RewriteRow). r.ev_class) cat.pg_rewrite c.oid (subst (λ k. has_own_row cat k c.oid ≡ true) is (own_row cat well c among)) in
      let at : class_path_of cat has.0.ev_class ≡ Some q = ap (class_path_of cat) has.2 ∙ own_path cat well c among q path in
      by has.0 has.1 at (view_body has.0.viewdef) refl (body_row_good has.0 has.1)
    where
      by : (r : RewriteRow) → IsAmong r cat.pg_rewrite → class_path_of cat r.ev_class ≡ Some q → (o : Option Bytes) → view_body r.viewdef ≡ o → is_good_body cat o ≡ true → IsThere cat rows (key.Body q)
      by r here at None said h = absurd cc
      by r here at (Some text) said h =
          there cat rows (key.Body q) (value.Body text) (of_bodies cat rows _ (in_flat (body_entries cat) cat.pg_rewrite r _ here
          (path_in _ (class_path_of cat r.ev_class) _ q at (under_in _ (view_body r.viewdef) _ text said (inl refl)))))

  -- ---- indexes lie in the schemas of their tables

  schema_of_index : (c : ClassRow) → IsAmong c cat.pg_class → (q : QName) → class_path cat.pg_namespace c ≡ Some q → relation_kind c.relkind ≡ Index → (table : QName) → option_and_then (class_path_of cat) (table_of_index cat c.oid) ≡ Some table → q.schema ≡ table.schema
  schema_of_index c among q path is table of =
      by (find (λ (i : IndexRow). same_oid c.oid i.indexrelid) cat.pg_index) refl
    where
      own : class_path_of cat c.oid ≡ Some q
      own = own_path cat well c among q path

      of_row : (i : IndexRow) → IsAmong i cat.pg_index → c.oid ≡ i.indexrelid → q.schema ≡ table.schema
      of_row i here same =
          let says = index_says cat well i here in
          let one : q ≡ index_path says.text.table says.text.name = let both = sym own ∙ ap (class_path_of cat) same ∙ says.path in cc in
          let at : option_and_then (class_path_of cat) (table_of_index cat c.oid) ≡ Some says.text.table = ap (λ n. option_and_then (class_path_of cat) (table_of_index cat n)) same ∙ ap (option_and_then (class_path_of cat)) (table_of_own cat well i here) ∙ says.table in
          let two : says.text.table ≡ table = let both = sym at ∙ of in cc in
          ap (λ (p : QName). p.schema) one ∙ ap (λ (p : QName). p.schema) two

      of_key : (k : ConstraintRow) → IsAmong k cat.pg_constraint → is_key k ≡ true → c.oid ≡ k.conindid → q.schema ≡ table.schema
      of_key k here key same =
          let says = (key_row cat well k here key).1 in
          let one : q ≡ index_path says.table k.conname = let both = sym own ∙ ap (class_path_of cat) same ∙ says.path in cc in
          let at : option_and_then (class_path_of cat) (table_of_index cat c.oid) ≡ Some says.table = ap (λ n. option_and_then (class_path_of cat) (table_of_index cat n)) same ∙ ap (option_and_then (class_path_of cat)) (table_of_own_key cat well k here key) ∙ says.at in
          let two : says.table ≡ table = let both = sym at ∙ of in cc in
          ap (λ (p : QName). p.schema) one ∙ ap (λ (p : QName). p.schema) two

      by_key : find (λ (i : IndexRow). same_oid c.oid i.indexrelid) cat.pg_index ≡ None → (o : Option ConstraintRow) → find (λ (k : ConstraintRow). is_key k && same_oid c.oid k.conindid) cat.pg_constraint ≡ o → q.schema ≡ table.schema
      by_key none None found =
          let nothing : table_of_index cat c.oid ≡ None = ap (λ (o : Option IndexRow). option_or (option_map (λ (i : IndexRow). i.indrelid) o) (table_of_key cat c.oid)) none ∙ ap (option_map (λ (k : ConstraintRow). k.conrelid)) found in
          let no_table : option_and_then (class_path_of cat) (table_of_index cat c.oid) ≡ None = ap (option_and_then (class_path_of cat)) nothing in
          absurd cc
      by_key none (Some k) found =
          let at = find_found (λ (d : ConstraintRow). is_key d && same_oid c.oid d.conindid) cat.pg_constraint k found in
          let both = and_parts (is_key k) (same_oid c.oid k.conindid) at.1 in
          of_key k at.0 both.0 (same_oid-equal c.oid k.conindid both.1)

      by : (o : Option IndexRow) → find (λ (i : IndexRow). same_oid c.oid i.indexrelid) cat.pg_index ≡ o → q.schema ≡ table.schema
      by None found = by_key found (find (λ (k : ConstraintRow). is_key k && same_oid c.oid k.conindid) cat.pg_constraint) refl
      by (Some i) found = let at = find_found (λ (r : IndexRow). same_oid c.oid r.indexrelid) cat.pg_index i found in of_row i at.0 (same_oid-equal c.oid i.indexrelid at.1)

  -- ---- relations

  module _ (reads : Reads texts) (q : QName) (v : Value) where
    of_class_sound : (c : ClassRow) → IsAmong c cat.pg_class → class_path cat.pg_namespace c ≡ Some q → (k : RelationKind) → relation_kind c.relkind ≡ k → IsRelation cat c k v → IsSoundAt texts (catalogue_named cat rows) (key.Rel q) v
    of_class_sound c among path Table kind is = subst (IsSoundAt texts (catalogue_named cat rows) (key.Rel q)) is (record {
      own = table_good cat well c.oid texts reads rows (few_columns cat well c among kind);
      others = (
        is_met cat rows (key.Schema q.schema) (schema_of_path texts cat rows well c q path),
        (
          is_met cat rows (key.Rows q) (entry_there cat well rows c among q path Table kind (key.Rows q, value.Rows (rows c.oid)) (inr (inl refl))),
          (
            is_met cat rows (key.Owner (object.Relation q)) (relation_owner_there texts cat rows well c among q path on.Table (ap (grant_kind cat) kind)),
            (is_met cat rows (key.Acl (object.Relation q)) (relation_grants_there texts cat rows well c among q path on.Table (ap (grant_kind cat) kind)), columns_ask cat well c.oid texts reads rows),
          ),
        ),
      );
    })
    of_class_sound c among path View kind is = subst (IsSoundAt texts (catalogue_named cat rows) (key.Rel q)) is (record {
      own = tt;
      others = (
        is_met cat rows (key.Schema q.schema) (schema_of_path texts cat rows well c q path),
        (
          is_met cat rows (key.Body q) (body_there c among q path kind),
          (
            is_met cat rows (key.Owner (object.Relation q)) (relation_owner_there texts cat rows well c among q path on.Table (ap (grant_kind cat) kind)),
            (is_met cat rows (key.Acl (object.Relation q)) (relation_grants_there texts cat rows well c among q path on.Table (ap (grant_kind cat) kind)), tt),
          ),
        ),
      );
    })
    of_class_sound c among path Sequence kind is = absurd is
    of_class_sound c among path Index kind is = subst (IsSoundAt texts (catalogue_named cat rows) (key.Rel q)) is.2 (record {
      own = schema_of_index c among q path kind is.0 is.1;
      others = (is_met cat rows (key.Schema q.schema) (schema_of_path texts cat rows well c q path), tt);
    })
    of_class_sound c among path (Other letter) kind is = absurd is

    of_sequence_sound : (from : OfSequence cat q (λ row kind. value.Sequence (numbers kind row) ≡ v)) → IsSoundAt texts (catalogue_named cat rows) (key.Rel q) v
    of_sequence_sound from =
        let at = at_path cat from.row.seqrelid q from.path in
        let c = at.class.row in
        let kind = sequence_class cat well from.row from.among at.class in
        subst (IsSoundAt texts (catalogue_named cat rows) (key.Rel q)) from.is (record {
          own = (good_numbers texts cat rows well from.row from.among from.kind from.of).0;
          others = (
            is_met cat rows (key.Schema q.schema) (schema_of_path texts cat rows well c q at.path),
            (
              is_met cat rows (key.SeqVal q) (there cat rows (key.SeqVal q) (value.SequenceValue from.row.last_value from.row.is_called) (of_sequences cat rows _ (in_flat (sequence_entries cat) cat.pg_sequence from.row _ from.among
                  (path_in _ (class_path_of cat from.row.seqrelid) _ q from.path (value_in _ (option_map (λ k. value.Sequence (numbers k from.row)) (sequence_kind from.row.seqtype)) _ (value.Sequence (numbers from.kind from.row)) (ap (option_map (λ k. value.Sequence (numbers k from.row))) from.of) (inr (inl refl))))))),
              (
                is_met cat rows (key.Owner (object.Relation q)) (relation_owner_there texts cat rows well c at.class.among q at.path on.Sequence (ap (grant_kind cat) kind)),
                (is_met cat rows (key.Acl (object.Relation q)) (relation_grants_there texts cat rows well c at.class.among q at.path on.Sequence (ap (grant_kind cat) kind)), tt),
              ),
            ),
          );
        })

    pub relation_sound : Origin cat rows (key.Rel q) v → IsSoundAt texts (catalogue_named cat rows) (key.Rel q) v
    relation_sound (inl from) = of_class_sound from.row from.among from.path (relation_kind from.row.relkind) refl from.is
    relation_sound (inr from) = of_sequence_sound from

  -- ---- owners and grants of types

  ownable_type : (t : TypeRow) (v : Value) → type_value cat t ≡ Some v → (is_ownable v ≡ true) × (rights_of v ≡ Some (all_rights on.Type))
  ownable_type t v e = by (is_domain_letter t.typtype) e
    where
      domain : (o : Option (TypeName × Resolved)) → option_map (λ base. value.Domain (domain_of cat t base)) o ≡ Some v → (is_ownable v ≡ true) × (rights_of v ≡ Some (all_rights on.Type))
      domain None h = absurd cc
      domain (Some base) h = let same : value.Domain (domain_of cat t base) ≡ v = cc in (ap is_ownable (sym same), ap rights_of (sym same))

      by : (b : Bool) → cond {A = Option Value} b (option_map (λ base. value.Domain (domain_of cat t base)) (typed cat t.typbasetype t.basetext)) (Some (value.Enum (labels_of cat t.oid))) ≡ Some v → (is_ownable v ≡ true) × (rights_of v ≡ Some (all_rights on.Type))
      by true h = domain (typed cat t.typbasetype t.basetext) h
      by false h = let same : value.Enum (labels_of cat t.oid) ≡ v = cc in (ap is_ownable (sym same), ap rights_of (sym same))

  one_owner : (q : QName) {P Q : TypeRow → Bytes → Value → Type 0} → (a : OfType cat q P) (b : OfType cat q Q) → a.owner ≡ b.owner
  one_owner q a b =
      let same : a.row ≡ b.row = one_type cat well q a.row b.row a.among b.among a.path b.path in
      one_name (role_name cat.pg_authid b.row.typowner) a.owner b.owner (ap (λ (t : TypeRow). role_name cat.pg_authid t.typowner) (sym same) ∙ a.owned) b.owned

  module _ (q : QName) (v : Value) where
    pub type_owner_sound : Origin cat rows (key.Owner (object.Type q)) v → IsSoundAt texts (catalogue_named cat rows) (key.Owner (object.Type q)) v
    type_owner_sound from = subst (IsSoundAt texts (catalogue_named cat rows) (key.Owner (object.Type q))) from.is
        (owner_sound texts (catalogue_named cat rows) (object.Type q) from.owner refl (is_met cat rows (key.Role from.owner) (role_of_oid cat rows from.row.typowner from.owner from.owned))
        (met cat rows (key.UserType q) Asked.ownable (type_is_there cat well rows from.row from.among q from.path) (λ w at. (ownable_type from.row w (type_at cat well rows from.row from.among q from.path w at)).0)))

    pub type_grants_sound : Origin cat rows (key.Acl (object.Type q)) v → IsSoundAt texts (catalogue_named cat rows) (key.Acl (object.Type q)) v
    type_grants_sound from =
        let grants = grants_of on.Type from.owner from.row.typacl in
        let good = granted on.Type cat.pg_authid from.owner from.row.typacl (good_type cat well from.row from.among).0 in
        let owner_there = type_owner_there cat rows from.row from.among q from.path from.owner from.owned from.value from.of in
        subst (IsSoundAt texts (catalogue_named cat rows) (key.Acl (object.Type q))) from.is
        (grants_sound texts (catalogue_named cat rows) (object.Type q) on.Type cat from.owner grants refl good
        (met cat rows (key.UserType q) (Asked.takes grants) (type_is_there cat well rows from.row from.among q from.path) (λ w at.
        subst (HasRights grants) (sym (ownable_type from.row w (type_at cat well rows from.row from.among q from.path w at)).1) good.within))
        (is_met cat rows (key.Owner (object.Type q)) owner_there)
        (λ role e. is_met cat rows (key.Role role) (role_named cat rows role e))
        (λ role e. met cat rows (key.Owner (object.Type q)) (Asked.other_owner role) owner_there (λ w at.
        other_owner at.owner role w at.is (subst (λ (n : Bytes). same_text n role ≡ false) (one_owner q from at) e))))
