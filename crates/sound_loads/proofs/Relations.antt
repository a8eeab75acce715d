-- Relations of a loaded catalogue are in order, with their owners, grants, and values of sequences; of tables and bodies it is
-- said that they are there.
use Rattle.std.proofs.Common.{◌≡◌, ℕ, true, false, not, [], ◌∷◌, Option, Some, refl, sym, ap, subst, ◌∙◌, inl, inr}
use Rattle.std.proofs.lemmas.Bool.{and_parts}
use Rattle.cat_rows.specs.declared.catalogue.Catalogue.{Catalogue}
use Rattle.cat_rows.specs.declared.relations.ClassRow.{ClassRow}
use Rattle.cat_rows.specs.declared.schemas.NamespaceRow.{NamespaceRow}
use Rattle.cat_rows.specs.declared.sequences.SequenceRow.{SequenceRow}
use Rattle.cat_model.specs.declared.constraint.SequenceKind.{SequenceKind}
use Rattle.cat_model.specs.declared.key.Key.TheVariants as key
use Rattle.cat_model.specs.declared.object.Object.TheVariants as object
use Rattle.cat_model.specs.declared.object.QName.{QName}
use Rattle.cat_model.specs.declared.value.Value.{Value}
use Rattle.cat_model.specs.declared.value.Value.TheVariants as value
use Rattle.cat_model.specs.Lexemes.{same_text}
use Rattle.cat_model.specs.RelationEffects.{fits_sequence, within}
use Rattle.cat_model.specs.Values.{Bytes}
use Rattle.cat_names.specs.declared.relations.RelationKind.{RelationKind}
use Rattle.cat_names.specs.declared.relations.RelationKind.TheVariants.{Table, View, Sequence, Index, Other}
use Rattle.cat_names.specs.declared.rights.GrantKind.{GrantKind}
use Rattle.cat_names.specs.declared.rights.GrantKind.TheVariants as on
use Rattle.cat_names.specs.Grants.{grants_of}
use Rattle.cat_names.specs.Kinds.{relation_kind}
use Rattle.cat_names.specs.Lookups.{role_name, is_role}
use Rattle.cat_names.specs.Naming.{Entry}
use Rattle.cat_names.specs.Rights.{is_bad_acl}
use Rattle.cat_book.specs.Paths.{path_in, class_path}
use Rattle.row_texts.specs.SequenceTypes.{sequence_kind}
use Rattle.plain_tables.specs.Relations.{is_bad_relation_acl}
use Rattle.text_tables.specs.Sequences.{numbers, has_good_numbers}
use Rattle.well_formed.specs.Formed.{IsWellFormed}
use Rattle.cat_naming.specs.Relations.{RowsByOid, owned_entries}
use Rattle.cat_naming.specs.Entries.{catalogue_named}
use Rattle.cat_sound.specs.Texts.{Texts}
use Rattle.cat_sound.specs.Asked.{Asked, Meets, HasRights, is_ownable}
use Rattle.cat_sound.specs.Rights.{rights_of}
use Rattle.cat_sound.specs.Sound.{IsSoundAt}
use Rattle.cat_sound.proofs.Lists.{IsIn}
use Rattle.sound_rows.specs.Granted.{all_rights}
use Rattle.sound_rows.specs.Rows.{IsAmong}
use Rattle.sound_rows.proofs.Among.{each_in}
use Rattle.sound_rows.proofs.Grants.{granted}
use Rattle.sound_rows.proofs.Paths.{one_of_oid, path_found}
use Rattle.sound_rows.proofs.Roles.{role_is_named}
use Rattle.sound_loads.specs.Origins.{Origin, OfClass, OfSequence, HasOwner, grant_kind}
use Rattle.sound_loads.proofs.Classes.{not_false, at_path, one_class, owner_of_class, RelationAt, SequenceAt, sequence_class, relation_at, relation_there, entry_there}
use Rattle.sound_loads.proofs.Cluster.{owner_sound, grants_sound, other_owner, one_name}
use Rattle.sound_loads.proofs.Entries.{under_in}
use Rattle.sound_loads.proofs.Origins.{entries_by}
use Rattle.sound_loads.proofs.Standing.{IsThere, met, is_met, role_of_oid, role_named, schema_there}

module _ (texts : Texts) (cat : Catalogue) (rows : RowsByOid) (well : IsWellFormed cat) where
  -- ---- schemas

  -- the schema of a path is there
  pub schema_of_space : (space : ℕ) (name : Bytes) (q : QName) → path_in cat.pg_namespace space name ≡ Some q → IsThere cat rows (key.Schema q.schema)
  schema_of_space space name q path =
      let at = path_found cat.pg_namespace space name q path in
      let owner = role_is_named cat.pg_authid at.schema.nspowner (not_false _ (each_in (λ (s : NamespaceRow). not (is_role cat.pg_authid s.nspowner) ≡ false) cat.pg_namespace well.schemas.there at.schema at.among)) in
      subst (λ (n : Bytes). IsThere cat rows (key.Schema n)) (ap (λ (p : QName). p.schema) at.path) (schema_there cat rows at.schema at.among owner.0 owner.1)

  pub schema_of_path : (c : ClassRow) (q : QName) → class_path cat.pg_namespace c ≡ Some q → IsThere cat rows (key.Schema q.schema)
  schema_of_path c q path = schema_of_space c.relnamespace c.relname q path

  -- ---- owners and grants

  module _ (c : ClassRow) (among : IsAmong c cat.pg_class) (q : QName) (path : class_path cat.pg_namespace c ≡ Some q) where
    -- what a relation with an owner gives
    of_owned : (k : RelationKind) (kind : GrantKind) → grant_kind cat k ≡ Some kind → (e : Entry) → IsIn e (owned_entries cat kind c q) → IsIn e (entries_by cat rows c q k)
    of_owned Table kind of e here = let same : on.Table ≡ kind = cc in inr (inr (subst (λ g. IsIn e (owned_entries cat g c q)) (sym same) here))
    of_owned View kind of e here = let same : on.Table ≡ kind = cc in inr (subst (λ g. IsIn e (owned_entries cat g c q)) (sym same) here)
    of_owned Sequence kind of e here = let same : on.Sequence ≡ kind = cc in subst (λ g. IsIn e (owned_entries cat g c q)) (sym same) here
    of_owned Index kind of e here = absurd cc
    of_owned (Other letter) kind of e here = absurd cc

    module _ (kind : GrantKind) (of : grant_kind cat (relation_kind c.relkind) ≡ Some kind) where
      owned_there : (owner : Bytes) → role_name cat.pg_authid c.relowner ≡ Some owner → (e : Entry) → IsIn e ((key.Owner (object.Relation q), value.Owner owner) ∷ (key.Acl (object.Relation q), value.Grants (grants_of kind owner c.relacl)) ∷ []) → IsThere cat rows e.0
      owned_there owner owned e here =
          entry_there cat well rows c among q path (relation_kind c.relkind) refl e
          (of_owned (relation_kind c.relkind) kind of e (under_in e (role_name cat.pg_authid c.relowner) _ owner owned here))

      pub relation_owner_there : IsThere cat rows (key.Owner (object.Relation q))
      relation_owner_there = let owner = owner_of_class cat well c among in owned_there owner.0 owner.1 (key.Owner (object.Relation q), value.Owner owner.0) (inl refl)

      pub relation_grants_there : IsThere cat rows (key.Acl (object.Relation q))
      relation_grants_there = let owner = owner_of_class cat well c among in owned_there owner.0 owner.1 (key.Acl (object.Relation q), value.Grants (grants_of kind owner.0 c.relacl)) (inr (inl refl))

  ownable_at : (c : ClassRow) (k : RelationKind) (kind : GrantKind) (v : Value) → grant_kind cat k ≡ Some kind → RelationAt cat well c k v → is_ownable v ≡ true
  ownable_at c Table kind v of is = subst (Meets Asked.ownable) is refl
  ownable_at c View kind v of is = subst (Meets Asked.ownable) is refl
  ownable_at c Sequence kind v of at = subst (Meets Asked.ownable) at.is refl
  ownable_at c Index kind v of is = absurd cc
  ownable_at c (Other letter) kind v of is = absurd is

  rights_at : (c : ClassRow) (k : RelationKind) (kind : GrantKind) (v : Value) → grant_kind cat k ≡ Some kind → RelationAt cat well c k v → rights_of v ≡ Some (all_rights kind)
  rights_at c Table kind v of is = let same : on.Table ≡ kind = cc in ap rights_of (sym is) ∙ ap (λ (g : GrantKind). Some (all_rights g)) same
  rights_at c View kind v of is = let same : on.Table ≡ kind = cc in ap rights_of (sym is) ∙ ap (λ (g : GrantKind). Some (all_rights g)) same
  rights_at c Sequence kind v of at = let same : on.Sequence ≡ kind = cc in ap rights_of (sym at.is) ∙ ap (λ (g : GrantKind). Some (all_rights g)) same
  rights_at c Index kind v of is = absurd cc
  rights_at c (Other letter) kind v of is = absurd is

  good_acl : (c : ClassRow) → IsAmong c cat.pg_class → (kind : GrantKind) → grant_kind cat (relation_kind c.relkind) ≡ Some kind → is_bad_acl kind cat.pg_authid c.relacl ≡ false
  good_acl c among kind of =
      by (relation_kind c.relkind) of (each_in (λ (r : ClassRow). is_bad_relation_acl (relation_kind r.relkind) cat.pg_authid r.relacl ≡ false) cat.pg_class well.relations.texts c among)
    where
      by : (k : RelationKind) → grant_kind cat k ≡ Some kind → is_bad_relation_acl k cat.pg_authid c.relacl ≡ false → is_bad_acl kind cat.pg_authid c.relacl ≡ false
      by Table is e = let same : on.Table ≡ kind = cc in subst (λ g. is_bad_acl g cat.pg_authid c.relacl ≡ false) same e
      by View is e = let same : on.Table ≡ kind = cc in subst (λ g. is_bad_acl g cat.pg_authid c.relacl ≡ false) same e
      by Sequence is e = let same : on.Sequence ≡ kind = cc in subst (λ g. is_bad_acl g cat.pg_authid c.relacl ≡ false) same e
      by Index is e = absurd cc
      by (Other letter) is e = absurd cc

  one_owner : (q : QName) {P Q : ClassRow → GrantKind → Bytes → Type 0} → (a : OfClass cat q (λ row. HasOwner cat row (P row))) (b : OfClass cat q (λ row. HasOwner cat row (Q row))) → a.is.owner ≡ b.is.owner
  one_owner q a b =
      let same : a.row ≡ b.row = one_class cat well q a.row b.row a.among b.among a.path b.path in
      one_name (role_name cat.pg_authid b.row.relowner) a.is.owner b.is.owner (ap (λ (c : ClassRow). role_name cat.pg_authid c.relowner) (sym same) ∙ a.is.owned) b.is.owned

  module _ (q : QName) (v : Value) where
    pub relation_owner_sound : Origin cat rows (key.Owner (object.Relation q)) v → IsSoundAt texts (catalogue_named cat rows) (key.Owner (object.Relation q)) v
    relation_owner_sound from = subst (IsSoundAt texts (catalogue_named cat rows) (key.Owner (object.Relation q))) from.is.has
        (owner_sound texts (catalogue_named cat rows) (object.Relation q) from.is.owner refl (is_met cat rows (key.Role from.is.owner) (role_of_oid cat rows from.row.relowner from.is.owner from.is.owned))
        (met cat rows (key.Rel q) Asked.ownable (relation_there cat well rows from.row from.among q from.path) (λ w at.
        ownable_at from.row (relation_kind from.row.relkind) from.is.kind w from.is.of_kind (relation_at cat well rows from.row from.among q from.path w at))))

    pub relation_grants_sound : Origin cat rows (key.Acl (object.Relation q)) v → IsSoundAt texts (catalogue_named cat rows) (key.Acl (object.Relation q)) v
    relation_grants_sound from =
        let kind = from.is.kind in
        let owner = from.is.owner in
        let grants = grants_of kind owner from.row.relacl in
        let good = granted kind cat.pg_authid owner from.row.relacl (good_acl from.row from.among kind from.is.of_kind) in
        let owner_there = relation_owner_there from.row from.among q from.path kind from.is.of_kind in
        subst (IsSoundAt texts (catalogue_named cat rows) (key.Acl (object.Relation q))) from.is.has
        (grants_sound texts (catalogue_named cat rows) (object.Relation q) kind cat owner grants refl good
        (met cat rows (key.Rel q) (Asked.takes grants) (relation_there cat well rows from.row from.among q from.path) (λ w at.
        subst (HasRights grants) (sym (rights_at from.row (relation_kind from.row.relkind) kind w from.is.of_kind (relation_at cat well rows from.row from.among q from.path w at))) good.within))
        (is_met cat rows (key.Owner (object.Relation q)) owner_there)
        (λ role e. is_met cat rows (key.Role role) (role_named cat rows role e))
        (λ role e. met cat rows (key.Owner (object.Relation q)) (Asked.other_owner role) owner_there (λ w at.
        other_owner at.is.owner role w at.is.has (subst (λ (n : Bytes). same_text n role ≡ false) (one_owner q from at) e))))

  -- ---- values of sequences

  -- the numbers of a sequence's row fit its type, and its value lies between its bounds
  pub good_numbers : (s : SequenceRow) → IsAmong s cat.pg_sequence → (kind : SequenceKind) → sequence_kind s.seqtype ≡ Some kind → (fits_sequence (numbers kind s) ≡ true) × (within s.seqmin s.seqmax s.last_value ≡ true)
  good_numbers s among kind of =
      let good = not_false _ (each_in (λ (r : SequenceRow). not (has_good_numbers (sequence_kind r.seqtype) r) ≡ false) cat.pg_sequence well.sequences.texts s among) in
      and_parts (fits_sequence (numbers kind s)) (within s.seqmin s.seqmax s.last_value) (ap (λ (o : Option SequenceKind). has_good_numbers o s) (sym of) ∙ good)

  -- the sequence of a row is that row's
  own_sequence : (s : SequenceRow) → IsAmong s cat.pg_sequence → (c : ClassRow) → s.seqrelid ≡ c.oid → (v : Value) → (at : SequenceAt cat well c v) → at.row ≡ s
  own_sequence s among c same v at = one_of_oid (λ (r : SequenceRow). r.seqrelid) cat.pg_sequence well.sequences.oids at.row s at.among among (at.same ∙ sym same)

  pub sequence_at : (q : QName) {P : SequenceRow → SequenceKind → Type 0} (from : OfSequence cat q P) (v : Value) → Origin cat rows (key.Rel q) v → (kind : SequenceKind) × (value.Sequence (numbers kind from.row) ≡ v)
  sequence_at q from v of =
      let path = at_path cat from.row.seqrelid q from.path in
      let c = path.class.row in
      let at : SequenceAt cat well c v = subst (λ k. RelationAt cat well c k v) (sequence_class cat well from.row from.among path.class) (relation_at cat well rows c path.class.among q path.path v of) in
      (at.kind, ap (λ (r : SequenceRow). value.Sequence (numbers at.kind r)) (sym (own_sequence from.row from.among c path.class.same v at)) ∙ at.is)

  pub sequence_there : (q : QName) {P : SequenceRow → SequenceKind → Type 0} (from : OfSequence cat q P) → IsThere cat rows (key.Rel q)
  sequence_there q from = let path = at_path cat from.row.seqrelid q from.path in relation_there cat well rows path.class.row path.class.among q path.path

  module _ (q : QName) (v : Value) where
    pub sequence_value_sound : Origin cat rows (key.SeqVal q) v → IsSoundAt texts (catalogue_named cat rows) (key.SeqVal q) v
    sequence_value_sound from = subst (IsSoundAt texts (catalogue_named cat rows) (key.SeqVal q)) from.is (record {
      own = tt;
      others = (
        met cat rows (key.Rel q) (Asked.counts from.row.last_value) (sequence_there q from) (λ w of.
            subst (Meets (Asked.counts from.row.last_value)) (sequence_at q from w of).1 (good_numbers from.row from.among from.kind from.of).1),
        tt,
      );
    })
