-- Types of well-formed tables by their oids and paths: each comes to something, and what names one asks for what is there.
use Rattle.std.proofs.Common.{◌≡◌, ℕ, zero, suc, Bool, true, false, cond, not, ◌||◌, ◌&&◌, length, Option, Some, None, refl, sym, ap, subst, ◌∙◌, arith}
use Rattle.std.proofs.lemmas.Bool.{and_parts, or_parts}
use Rattle.std.specs.FinMap.{nat_cmp-IsAntisymmetric}
use Rattle.std.specs.List.{AllByRecursion}
use Rattle.std.specs.Option.{option_map, option_and_then}
use Rattle.std.specs.Ordering.{nat_cmp}
use Rattle.cat_rows.specs.declared.catalogue.Catalogue.{Catalogue}
use Rattle.cat_rows.specs.declared.schemas.NamespaceRow.{NamespaceRow}
use Rattle.cat_rows.specs.declared.types.TypeRow.{TypeRow}
use Rattle.cat_model.specs.declared.key.Key.TheVariants as key
use Rattle.cat_model.specs.declared.object.QName.{QName}
use Rattle.cat_model.specs.declared.type_name.TypeName.{TypeName}
use Rattle.cat_model.specs.declared.type_name.TypeName.TheVariants.{Words, Path}
use Rattle.cat_model.specs.declared.value.Resolved.{Resolved}
use Rattle.cat_model.specs.declared.value.Value.{Value}
use Rattle.cat_model.specs.declared.value.Value.TheVariants as value
use Rattle.cat_model.specs.References.{is_system}
use Rattle.cat_model.specs.TypeEffects.{as_it_is}
use Rattle.cat_model.specs.Values.{Bytes, Named}
use Rattle.cat_model.proofs.MarkLaws.{same_path-equal}
use Rattle.cat_names.specs.declared.rights.GrantKind.TheVariants as on
use Rattle.cat_names.specs.Lookups.{same_oid, is_no_oid, has_oid, schema_oids, is_role, role_name}
use Rattle.cat_names.specs.Rights.{is_bad_acl}
use Rattle.cat_book.specs.Chains.{type_of, is_domain_letter, has_base, base_of, ends_behind, ends_within, chain_ends}
use Rattle.cat_book.specs.Leads.{is_base_there, type_oids}
use Rattle.cat_book.specs.Paths.{type_path, path_of}
use Rattle.row_texts.specs.TypeTexts.{type_named}
use Rattle.text_tables.specs.Agreeing.{agrees, agrees_if_named, is_type_named, is_at, is_path}
use Rattle.text_tables.specs.Types as types
use Rattle.type_ends.specs.Ends.{labels_of, enum_resolved, over, resolved_within, resolved}
use Rattle.type_ends.proofs.Reached.{settled_within}
use Rattle.well_formed.specs.Formed.{IsWellFormed}
use Rattle.cat_naming.specs.Entries.{catalogue_named}
use Rattle.cat_naming.specs.Relations.{RowsByOid}
use Rattle.cat_naming.specs.Types.{typed, type_value, domain_of}
use Rattle.cat_sound.specs.Texts.{Texts}
use Rattle.cat_sound.specs.Asked.{Asked, end_of}
use Rattle.cat_sound.specs.Asks.{type_asks}
use Rattle.cat_sound.specs.Itself.{IsTyped}
use Rattle.cat_sound.specs.Sound.{IsMet}
use Rattle.sound_rows.specs.Rows.{IsAmong}
use Rattle.sound_rows.proofs.Among.{each_in, has_found, find_found, found_find}
use Rattle.sound_rows.proofs.Paths.{oid_tied, one_path, path_found, path_there}
use Rattle.sound_rows.proofs.Roles.{same_oid-equal, role_is_named}
use Rattle.sound_loads.specs.Origins.{Origin}
use Rattle.sound_loads.specs.Reads.{Reads}
use Rattle.sound_loads.proofs.Classes.{not_false}
use Rattle.sound_loads.proofs.Standing.{IsThere, met, type_there}

-- ---- one step along a chain

module _ (cat : Catalogue) where
  words_end : (n oid : ℕ) (text : Bytes) → is_no_oid oid ≡ true → resolved_within (suc n) cat oid text ≡ option_map as_it_is (type_named text)
  unfolding resolved_within
  words_end n oid text is = rw is refl

  domain_end : (n oid : ℕ) (text : Bytes) (t : TypeRow) → is_no_oid oid ≡ false → type_of cat.pg_type oid ≡ Some t → is_domain_letter t.typtype ≡ true → resolved_within (suc n) cat oid text ≡ option_map (over t) (resolved_within n cat t.typbasetype t.basetext)
  unfolding resolved_within
  domain_end n oid text t some is letter = rw (some, is, letter) refl

  enum_end : (n oid : ℕ) (text : Bytes) (t : TypeRow) → is_no_oid oid ≡ false → type_of cat.pg_type oid ≡ Some t → is_domain_letter t.typtype ≡ false → resolved_within (suc n) cat oid text ≡ option_map (λ path. enum_resolved path (labels_of cat t.oid)) (type_path cat.pg_namespace t)
  unfolding resolved_within
  enum_end n oid text t some is letter = rw (some, is, letter) refl

  -- so a domain comes to what its base comes to
  pub domain_resolved : (oid : ℕ) (text : Bytes) (t : TypeRow) → is_no_oid oid ≡ false → type_of cat.pg_type oid ≡ Some t → is_domain_letter t.typtype ≡ true → resolved cat oid text ≡ option_map (over t) (resolved cat t.typbasetype t.basetext)
  domain_resolved oid text t some is letter = sym (settled_within cat oid text (suc (length cat.pg_type)) (omega arith)) ∙ domain_end (suc (length cat.pg_type)) oid text t some is letter

  -- ---- types by oids

  pub record IsTypeOf (oid : ℕ) : Type 0 where
    pub row : TypeRow
    pub among : IsAmong row cat.pg_type
    pub same : oid ≡ row.oid
    pub found : type_of cat.pg_type oid ≡ Some row

  abbrev pub type_found : (oid : ℕ) → (row : TypeRow) → type_of cat.pg_type oid ≡ Some row → IsTypeOf oid
  type_found oid row is =
      let found = find_found (λ (t : TypeRow). same_oid oid t.oid) cat.pg_type row is in
      record { row = row; among = found.0; same = same_oid-equal oid row.oid found.1; found = is }

  -- a base that is there is none, or a type
  pub base_found : (oid : ℕ) → is_base_there cat.pg_type oid ≡ true → is_no_oid oid ≡ false → IsTypeOf oid
  base_found oid e some = by (is_no_oid oid) some e
    where
      by : (b : Bool) → b ≡ false → (b || has_oid (type_oids cat.pg_type) oid) ≡ true → IsTypeOf oid
      by true f h = absurd cc
      by false f h =
          let has = has_found nat_cmp nat_cmp-IsAntisymmetric (λ (t : TypeRow). t.oid) cat.pg_type oid h in
          let tied : same_oid oid has.0.oid ≡ true = subst (λ (n : ℕ). same_oid oid n ≡ true) (sym has.2) (oid_tied oid) in
          let first = found_find (λ (t : TypeRow). same_oid oid t.oid) cat.pg_type has.0 has.1 tied in
          type_found oid first.0 first.1

  -- a text names a type, by that type's oid
  pub record IsNamed (oid : ℕ) (text : Bytes) : Type 0 where
    pub name : TypeName
    pub named : type_named text ≡ Some name
    pub agreed : agrees cat oid name ≡ true

  pub name_of : (oid : ℕ) (text : Bytes) → is_type_named cat oid text ≡ true → IsNamed oid text
  name_of oid text e = by (type_named text) refl e
    where
      by : (o : Option TypeName) → type_named text ≡ o → agrees_if_named cat oid o ≡ true → IsNamed oid text
      by None is h = absurd cc
      by (Some name) is h = record { name = name; named = is; agreed = h }

  module _ (well : IsWellFormed cat) where
    -- ---- one type of one path

    pub one_type : (q : QName) (a b : TypeRow) → IsAmong a cat.pg_type → IsAmong b cat.pg_type → type_path cat.pg_namespace a ≡ Some q → type_path cat.pg_namespace b ≡ Some q → a ≡ b
    one_type q a b among other pa pb = one_path cat.pg_namespace well.schemas.names (λ (t : TypeRow). t.oid) (λ (t : TypeRow). t.typnamespace) (λ (t : TypeRow). t.typname) cat.pg_type well.types.names a b q among other pa pb

    -- ---- what a type's row needs

    row_there : (t : TypeRow) → IsAmong t cat.pg_type → types.is_there cat t ≡ true
    row_there t among = not_false _ (each_in (λ (r : TypeRow). not (types.is_there cat r) ≡ false) cat.pg_type well.types.there t among)

    pub path_of_type : (t : TypeRow) → IsAmong t cat.pg_type → (q : QName) × (type_path cat.pg_namespace t ≡ Some q)
    path_of_type t among = path_there cat.pg_namespace t.typnamespace t.typname (and_parts (has_oid (schema_oids cat.pg_namespace) t.typnamespace) (is_role cat.pg_authid t.typowner && is_base_there cat.pg_type t.typbasetype) (row_there t among)).0

    owner_and_base : (t : TypeRow) → IsAmong t cat.pg_type → (is_role cat.pg_authid t.typowner ≡ true) × (is_base_there cat.pg_type t.typbasetype ≡ true)
    owner_and_base t among =
        and_parts (is_role cat.pg_authid t.typowner) (is_base_there cat.pg_type t.typbasetype)
        (and_parts (has_oid (schema_oids cat.pg_namespace) t.typnamespace) (is_role cat.pg_authid t.typowner && is_base_there cat.pg_type t.typbasetype) (row_there t among)).1

    pub owner_of_type : (t : TypeRow) → IsAmong t cat.pg_type → (owner : Bytes) × (role_name cat.pg_authid t.typowner ≡ Some owner)
    owner_of_type t among = role_is_named cat.pg_authid t.typowner (owner_and_base t among).0

    pub good_type : (t : TypeRow) → IsAmong t cat.pg_type → (is_bad_acl on.Type cat.pg_authid t.typacl ≡ false) × ((is_domain_letter t.typtype && not (types.is_good_domain cat t)) ≡ false)
    good_type t among = or_parts (is_bad_acl on.Type cat.pg_authid t.typacl) _ (each_in (λ (r : TypeRow). types.is_bad_type cat r ≡ false) cat.pg_type well.types.texts t among)

    good_domain : (t : TypeRow) → IsAmong t cat.pg_type → is_domain_letter t.typtype ≡ true → types.is_good_domain cat t ≡ true
    good_domain t among letter = by (is_domain_letter t.typtype) letter (good_type t among).1
      where
        by : (b : Bool) → b ≡ true → (b && not (types.is_good_domain cat t)) ≡ false → types.is_good_domain cat t ≡ true
        by true is h = not_false _ h
        by false is h = absurd cc

    -- a domain names its base, its chain ends, and its default is good
    pub record IsDomainRow (t : TypeRow) : Type 0 where
      pub base : is_base_there cat.pg_type t.typbasetype ≡ true
      pub named : is_type_named cat t.typbasetype t.basetext ≡ true
      pub ends : chain_ends cat.pg_type t ≡ true
      pub default : types.is_good_default cat (type_path cat.pg_namespace t) t.typdefault ≡ true

    pub domain_row : (t : TypeRow) → IsAmong t cat.pg_type → is_domain_letter t.typtype ≡ true → IsDomainRow t
    domain_row t among letter =
        let a = and_parts (is_type_named cat t.typbasetype t.basetext) _ (good_domain t among letter) in
        let b = and_parts (chain_ends cat.pg_type t) (types.is_good_default cat (type_path cat.pg_namespace t) t.typdefault) a.1 in
        record { base = (owner_and_base t among).1; named = a.0; ends = b.0; default = b.1 }

    -- ---- what types come to

    Comes : ℕ → Bytes → Type 0
    Comes oid text = (end : Resolved) × (resolved cat oid text ≡ Some end)

    words_come : (oid : ℕ) (text : Bytes) → is_no_oid oid ≡ true → is_type_named cat oid text ≡ true → (end : Resolved) × (resolved cat oid text ≡ Some end)
    words_come oid text is e = let n = name_of oid text e in (as_it_is n.name, words_end (length cat.pg_type) oid text is ∙ ap (option_map as_it_is) n.named)

    enum_comes : (oid : ℕ) (text : Bytes) → is_no_oid oid ≡ false → (t : IsTypeOf oid) → is_domain_letter t.row.typtype ≡ false → (end : Resolved) × (resolved cat oid text ≡ Some end)
    enum_comes oid text some t letter =
        let q = path_of_type t.row t.among in
        (enum_resolved q.0 (labels_of cat t.row.oid), enum_end (length cat.pg_type) oid text t.row some t.found letter ∙ ap (option_map (λ path. enum_resolved path (labels_of cat t.row.oid))) q.1)

    -- the base of a domain whose chain ends within so many types comes to something
    base_comes : (n : ℕ) (t : TypeRow) → IsDomainRow t → is_domain_letter t.typtype ≡ true → ends_within n cat.pg_type t ≡ true → (end : Resolved) × (resolved cat t.typbasetype t.basetext ≡ Some end)
    unfolding ends_within
    base_comes zero t good letter e = absurd cc
    base_comes (suc n) t good letter e =
        by (λ b among l ends. base_comes n b (domain_row b among l) l ends) (is_no_oid t.typbasetype) refl
      where
        further : ((b : TypeRow) → IsAmong b cat.pg_type → is_domain_letter b.typtype ≡ true → ends_within n cat.pg_type b ≡ true → (end : Resolved) × (resolved cat b.typbasetype b.basetext ≡ Some end))
            → is_no_oid t.typbasetype ≡ false → (b : IsTypeOf t.typbasetype) → (letter : Bool) → is_domain_letter b.row.typtype ≡ letter → ends_within n cat.pg_type b.row ≡ true → (end : Resolved) × (resolved cat t.typbasetype t.basetext ≡ Some end)
        further later some b false l ends = enum_comes t.typbasetype t.basetext some b l
        further later some b true l ends =
            let base = later b.row b.among l ends in
            (over b.row base.0, domain_resolved t.typbasetype t.basetext b.row some b.found l ∙ ap (option_map (over b.row)) base.1)

        by : ((b : TypeRow) → IsAmong b cat.pg_type → is_domain_letter b.typtype ≡ true → ends_within n cat.pg_type b ≡ true → (end : Resolved) × (resolved cat b.typbasetype b.basetext ≡ Some end))
            → (none : Bool) → is_no_oid t.typbasetype ≡ none → (end : Resolved) × (resolved cat t.typbasetype t.basetext ≡ Some end)
        by later true is = words_come t.typbasetype t.basetext is good.named
        by later false some =
            let b = base_found t.typbasetype good.base some in
            let has : has_base t ≡ true = rw (letter, some) refl in
            let base : base_of cat.pg_type t ≡ Some b.row = ap (λ (c : Bool). cond {A = Option TypeRow} c (type_of cat.pg_type t.typbasetype) None) has ∙ b.found in
            further later some b (is_domain_letter b.row.typtype) refl (ap (ends_behind (ends_within n cat.pg_type)) (sym base) ∙ e)

    -- what a text names comes to something, where it names the type of an oid
    pub type_comes : (oid : ℕ) (text : Bytes) → is_base_there cat.pg_type oid ≡ true → is_type_named cat oid text ≡ true → (end : Resolved) × (resolved cat oid text ≡ Some end)
    type_comes oid text there named = by (is_no_oid oid) refl
      where
        of_row : is_no_oid oid ≡ false → (t : IsTypeOf oid) → (letter : Bool) → is_domain_letter t.row.typtype ≡ letter → (end : Resolved) × (resolved cat oid text ≡ Some end)
        of_row some t false l = enum_comes oid text some t l
        of_row some t true l =
            let good = domain_row t.row t.among l in
            let base = base_comes (suc (length cat.pg_type)) t.row good l good.ends in
            (over t.row base.0, domain_resolved oid text t.row some t.found l ∙ ap (option_map (over t.row)) base.1)

        by : (none : Bool) → is_no_oid oid ≡ none → (end : Resolved) × (resolved cat oid text ≡ Some end)
        by true is = words_come oid text is named
        by false some = let t = base_found oid there some in of_row some t (is_domain_letter t.row.typtype) refl

    -- a type as a text names it, with what it comes to
    pub record IsTypedAs (oid : ℕ) (text : Bytes) : Type 0 where
      pub name : TypeName
      pub end : Resolved
      pub named : type_named text ≡ Some name
      pub agreed : agrees cat oid name ≡ true
      pub ends : resolved cat oid text ≡ Some end
      pub is : typed cat oid text ≡ Some (name, end)

    pub typed_as : (oid : ℕ) (text : Bytes) → is_base_there cat.pg_type oid ≡ true → is_type_named cat oid text ≡ true → IsTypedAs oid text
    typed_as oid text there named =
        let n = name_of oid text named in
        let end = type_comes oid text there named in
        record {
          name = n.name;
          end = end.0;
          named = n.named;
          agreed = n.agreed;
          ends = end.1;
          is = ap (λ (o : Option Resolved). option_and_then (λ (x : TypeName). option_map {U = TypeName × Resolved} (λ (r : Resolved). (x, r)) o) (type_named text)) end.1 ∙ ap (option_and_then (λ (x : TypeName). Some (x, end.0))) n.named;
        }

    -- ---- what stands at the key of a type

    pub value_of_type : (t : TypeRow) → IsAmong t cat.pg_type → (v : Value) × (type_value cat t ≡ Some v)
    value_of_type t among = by (is_domain_letter t.typtype) refl
      where
        by : (letter : Bool) → is_domain_letter t.typtype ≡ letter → (v : Value) × (cond {A = Option Value} letter (option_map (λ base. value.Domain (domain_of cat t base)) (typed cat t.typbasetype t.basetext)) (Some (value.Enum (labels_of cat t.oid))) ≡ Some v)
        by false l = (value.Enum (labels_of cat t.oid), refl)
        by true l =
            let good = domain_row t among l in
            let base = typed_as t.typbasetype t.basetext good.base good.named in
            (value.Domain (domain_of cat t (base.name, base.end)), ap (option_map (λ b. value.Domain (domain_of cat t b))) base.is)

    module _ (rows : RowsByOid) (t : TypeRow) (among : IsAmong t cat.pg_type) (q : QName) (path : type_path cat.pg_namespace t ≡ Some q) where
      pub type_is_there : IsThere cat rows (key.UserType q)
      type_is_there =
          let owner = owner_of_type t among in
          let v = value_of_type t among in
          type_there cat rows t among q path owner.0 owner.1 v.0 v.1

      pub type_at : (v : Value) → Origin cat rows (key.UserType q) v → type_value cat t ≡ Some v
      type_at v from = ap (type_value cat) (one_type q t from.row among from.among path from.path) ∙ from.of ∙ ap (λ (w : Value). Some w) from.is

    -- a type comes to what stands at its key
    comes : (oid : ℕ) (text : Bytes) (t : IsTypeOf oid) → is_no_oid oid ≡ false → (q : QName) → type_path cat.pg_namespace t.row ≡ Some q → (end : Resolved) → resolved cat oid text ≡ Some end → (v : Value) → type_value cat t.row ≡ Some v → end_of q v ≡ Some end
    comes oid text t some q path end ends v is = by (is_domain_letter t.row.typtype) refl is
      where
        domain : is_domain_letter t.row.typtype ≡ true → (o : Option (TypeName × Resolved)) → typed cat t.row.typbasetype t.row.basetext ≡ o → option_map (λ base. value.Domain (domain_of cat t.row base)) o ≡ Some v → end_of q v ≡ Some end
        domain l None at h = absurd cc
        domain l (Some base) at h =
            let same : value.Domain (domain_of cat t.row base) ≡ v = cc in
            let good = domain_row t.row t.among l in
            let type = typed_as t.row.typbasetype t.row.basetext good.base good.named in
            let pair : type.end ≡ base.1 = let both = sym type.is ∙ at in let eq : (type.name, type.end) ≡ base = cc in ap (λ p. p.1) eq in
            let step : Some (over t.row base.1) ≡ Some end = ap (λ (r : Resolved). Some (over t.row r)) (sym pair) ∙ ap (option_map (over t.row)) (sym type.ends) ∙ sym (domain_resolved oid text t.row some t.found l) ∙ ends in
            ap (end_of q) (sym same) ∙ step

        by : (letter : Bool) → is_domain_letter t.row.typtype ≡ letter → cond {A = Option Value} letter (option_map (λ base. value.Domain (domain_of cat t.row base)) (typed cat t.row.typbasetype t.row.basetext)) (Some (value.Enum (labels_of cat t.row.oid))) ≡ Some v → end_of q v ≡ Some end
        by true l h = domain l (typed cat t.row.typbasetype t.row.basetext) refl h
        by false l h =
            let same : value.Enum (labels_of cat t.row.oid) ≡ v = cc in
            let step : Some (enum_resolved q (labels_of cat t.row.oid)) ≡ Some end = ap (option_map (λ p. enum_resolved p (labels_of cat t.row.oid))) (sym path) ∙ sym (enum_end (length cat.pg_type) oid text t.row some t.found l) ∙ ends in
            ap (end_of q) (sym same) ∙ step

    -- ---- what names a type

    -- no row of pg_type lies in a schema of the system
    no_system : (t : TypeRow) (q : QName) → type_path cat.pg_namespace t ≡ Some q → is_system q.schema ≡ false
    no_system t q path =
        let at = path_found cat.pg_namespace t.typnamespace t.typname q path in
        let good = (or_parts (is_system at.schema.nspname) (is_bad_acl on.Schema cat.pg_authid at.schema.nspacl) (each_in (λ (s : NamespaceRow). (is_system s.nspname || is_bad_acl on.Schema cat.pg_authid s.nspacl) ≡ false) cat.pg_namespace well.schemas.texts at.schema at.among)).0 in
        ap is_system (ap (λ (p : QName). p.schema) (sym at.path)) ∙ good

    path_is : (o : Option QName) (q : QName) → is_path o q ≡ true → o ≡ Some q
    path_is None q e = absurd cc
    path_is (Some p) q e = ap (λ (x : QName). Some x) (same_path-equal p q e)

    pub record IsTypedWell (texts : Texts) (named : Named) (name : TypeName) (end : Resolved) : Type 0 where
      pub own : IsTyped texts name end
      pub others : AllByRecursion (IsMet named) (type_asks name end)

    module _ (texts : Texts) (reads : Reads texts) (rows : RowsByOid) (oid : ℕ) (text : Bytes) (there : is_base_there cat.pg_type oid ≡ true) (given : IsTypedAs oid text) where
      no_row : is_no_oid oid ≡ true → given.end ≡ as_it_is given.name
      no_row is = let same : Some given.end ≡ Some (as_it_is given.name) = sym given.ends ∙ words_end (length cat.pg_type) oid text is ∙ ap (option_map as_it_is) given.named in cc

      words_well : (w : Bytes) → given.name ≡ Words w → (none : Bool) → is_no_oid oid ≡ none → IsTypedWell texts (catalogue_named cat rows) (Words w) given.end
      words_well w name true is = record { own = record { named = ap texts.type (sym name) ∙ reads.types text given.name given.named; ends = no_row is ∙ ap as_it_is name }; others = tt }
      words_well w name false is =
          let some : agrees cat oid (Words w) ≡ true = ap (agrees cat oid) (sym name) ∙ given.agreed in
          let computed : agrees cat oid (Words w) ≡ false = ap (λ (b : Bool). cond b true false) is in
          absurd cc

      path_well : (q : QName) → given.name ≡ Path q → (none : Bool) → is_no_oid oid ≡ none → IsTypedWell texts (catalogue_named cat rows) (Path q) given.end
      path_well q name true is =
          let agreed : agrees cat oid (Path q) ≡ true = ap (agrees cat oid) (sym name) ∙ given.agreed in
          let system : is_system q.schema ≡ true = ap (λ (b : Bool). cond b (is_system q.schema) (is_at (path_of cat oid) (Path q))) (sym is) ∙ agreed in
          record {
            own = record { named = ap texts.type (sym name) ∙ reads.types text given.name given.named; ends = λ e. no_row is ∙ ap as_it_is name };
            others = rw system tt;
          }
      path_well q name false some =
          let agreed : agrees cat oid (Path q) ≡ true = ap (agrees cat oid) (sym name) ∙ given.agreed in
          let at : path_of cat oid ≡ Some q = path_is (path_of cat oid) q (ap (λ (b : Bool). cond b (is_system q.schema) (is_at (path_of cat oid) (Path q))) (sym some) ∙ agreed) in
          let t = base_found oid there some in
          let path : type_path cat.pg_namespace t.row ≡ Some q = ap (option_and_then (type_path cat.pg_namespace)) (sym t.found) ∙ at in
          let own = no_system t.row q path in
          record {
            own = record { named = ap texts.type (sym name) ∙ reads.types text given.name given.named; ends = λ e. absurd cc };
            others = rw own (
              met cat rows (key.UserType q) (Asked.comes_to q given.end) (type_is_there rows t.row t.among q path) (λ v from. comes oid text t some q path given.end given.ends v (type_at rows t.row t.among q path v from)),
              tt,
            );
          }

      pub typed_well : IsTypedWell texts (catalogue_named cat rows) given.name given.end
      typed_well = by given.name refl
        where
          by : (name : TypeName) → given.name ≡ name → IsTypedWell texts (catalogue_named cat rows) name given.end
          by (Words w) e = words_well w e (is_no_oid oid) refl
          by (Path q) e = path_well q e (is_no_oid oid) refl
