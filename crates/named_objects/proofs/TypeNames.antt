-- The rows of pg_type, with those of labels and checks, stand for the enums and domains.
use Rattle.std.proofs.Common.{◌≡◌, ℕ, Bool, true, true≢false, List, [], ◌∷◌, Option, Some, None, option_map, option_and_then, unwrap_or, refl, ap, sym, subst, ◌∙◌, inl, inr}
use Rattle.std.specs.Cmp.Lexicographic.{nat_list_cmp_total}
use Rattle.std.specs.FinMap.{get, from_entries, nat_cmp-IsAntisymmetric}
use Rattle.std.specs.List.{AllByRecursion, filter, flat_map}
use Rattle.cat_rows.specs.declared.catalogue.Catalogue.{Catalogue}
use Rattle.cat_rows.specs.declared.constraints.ConstraintRow.{ConstraintRow}
use Rattle.cat_rows.specs.declared.types.TypeRow.{TypeRow}
use Rattle.cat_model.specs.declared.object.QName.{QName}
use Rattle.cat_model.specs.declared.object.Object.{Object}
use Rattle.cat_model.specs.declared.object.Object.TheVariants as object
use Rattle.cat_model.specs.declared.key.Key.{Key}
use Rattle.cat_model.specs.declared.key.Key.TheVariants as key
use Rattle.cat_model.specs.declared.value.Value.{Value}
use Rattle.cat_model.specs.declared.value.Value.TheVariants as value
use Rattle.cat_model.specs.declared.value.Domain.{Domain}
use Rattle.cat_model.specs.HolderLaws.{bytes_cmp-IsAntisymmetric}
use Rattle.cat_model.specs.Values.{Bytes, Named, Grants, bytes_cmp}
use Rattle.cat_names.specs.declared.rights.GrantKind.TheVariants as on
use Rattle.cat_names.specs.Lookups.{same_oid, role_name, is_no_oid}
use Rattle.cat_names.specs.Naming.{Entry, under}
use Rattle.cat_book.specs.Chains.{is_domain_letter}
use Rattle.cat_book.specs.Paths.{type_path}
use Rattle.row_texts.specs.DefaultTexts.{default_said}
use Rattle.cat_naming.specs.Ends.{labels_of}
use Rattle.cat_naming.specs.Types.{under_path, typed, check_of, checks_of, domain_of, type_value, with_value, type_rights, owned_type, type_entries}
use Rattle.cat_sound.specs.Asked.{Asked}
use Rattle.cat_sound.specs.Texts.{Texts}
use Rattle.cat_sound.specs.Sound.{IsMet, IsSound}
use Rattle.cat_sound.proofs.Changes.{value_met}
use Rattle.cat_sound.proofs.Lists.{IsIn}
use Rattle.named_tables.specs.Oids.{AreOids}
use Rattle.named_tables.specs.Standing.{AreRowsOf}
use Rattle.named_tables.proofs.Ties.{tie}
use Rattle.named_tables.proofs.Rows.{in_place, among_in}
use Rattle.named_tables.proofs.Entries.{AreEntries, IsHeld, rows_give}
use Rattle.named_tables.proofs.Acls.{AreGood, same_grants}
use Rattle.named_tables.proofs.Owned.{owner_at, grants_at, owner_met, object_met, takes_them, grants_good}
use Rattle.named_tables.proofs.Roles.{named_there}
use Rattle.named_objects.specs.Oids.{ObjectOids}
use Rattle.named_objects.specs.Types.{NamedType, IsType, IsDefaultText, IsRowOfType, IsTypeRow, IsLabel, label_row}
use Rattle.named_objects.specs.Constraints.{Constrained, of_table, of_domain, IsConstrained, IsConstrainedRow}
use Rattle.named_objects.specs.Kinds.{of_types, is_type}
use Rattle.named_objects.proofs.Ends.{labels_found, base_kept, typed_found}
use Rattle.named_objects.proofs.Found.{in_filter, from_filter}
use Rattle.named_objects.proofs.Lookups.{AreLedTo, has_tie, whole_type, type_row_path}
use Rattle.named_objects.proofs.MapsOf.{map_stands, in_given, from_given}

default_so : (default said : Option Bytes) → IsDefaultText default said → option_and_then default_said said ≡ default
default_so None None is = refl
default_so (Some text) (Some said) is = is.1
default_so None (Some said) is = elim is [ ]
default_so (Some text) None is = elim is [ ]

module _ (texts : Texts) (named : Named) (sound : IsSound texts named) (oids : ObjectOids) (own : AreOids named oids.of) (cat : Catalogue) (led : AreLedTo named oids.of cat) (labels : AreRowsOf (IsLabel named) (λ l row. row ≡ label_row oids l) cat.pg_enum) (constraints : AreRowsOf (IsConstrained named) (IsConstrainedRow oids) cat.pg_constraint) where
  -- ---- the checks of a domain

  abbrev of_type : QName → ConstraintRow → Bool
  of_type q c = same_oid (oids.of (key.UserType q)) c.contypid

  module _ (q : QName) (d : Domain) (is : get named (key.UserType q) ≡ Some (value.Domain d)) where
    check_thing : (c : Constrained) (r : ConstraintRow) → IsConstrained named c → IsConstrainedRow oids c r → of_type q r ≡ true → (name text : Bytes) → check_of r ≡ Some (name, text) → get d.checks name ≡ Some text
    check_thing (of_table c) r is_c says at name text given =
        let zero : oids.of (key.UserType q) ≡ 0 = tie nat_cmp-IsAntisymmetric (oids.of (key.UserType q)) r.contypid at ∙ says.no_domain in
        absurd (true≢false (ap is_no_oid (sym zero) ∙ own.some (key.UserType q) (value.Domain d) is refl))
    check_thing (of_domain c) r is_c says at name text given =
        let equal : oids.of (key.UserType c.path) ≡ oids.of (key.UserType q) = sym (tie nat_cmp-IsAntisymmetric (oids.of (key.UserType q)) r.contypid at ∙ says.domain) in
        let keys : key.UserType c.path ≡ key.UserType q = own.apart (key.UserType c.path) (key.UserType q) (value.Domain c.domain) (value.Domain d) is_c.there is refl refl refl equal in
        let values : Some (value.Domain c.domain) ≡ Some (value.Domain d) = sym is_c.there ∙ ap (get named) keys ∙ is in
        let domains : c.domain ≡ d = cc in
        let shown : check_of r ≡ Some (c.name, c.text) = ap (option_map (λ (x : Bytes). (r.conname, x))) says.said ∙ ap (λ (n : Bytes). Some (n, c.text)) says.name in
        let both : Some (c.name, c.text) ≡ Some (name, text) = sym shown ∙ given in
        let pair : (c.name, c.text) ≡ (name, text) = ap (λ (o : Option (Bytes × Bytes)). unwrap_or o (c.name, c.text)) both in
        (λ i. get (sym domains i).checks (sym pair i).0) ∙ is_c.at ∙ ap (λ (p : Bytes × Bytes). Some p.1) pair

    checks_held : (name text : Bytes) → IsIn (name, text) (checks_of cat (oids.of (key.UserType q))) → get d.checks name ≡ Some text
    checks_held name text among =
        let found = from_given check_of (filter (of_type q) cat.pg_constraint) (name, text) among in
        let inside = from_filter (of_type q) cat.pg_constraint found.0 found.1 in
        let one = constraints.only found.0 (in_place cat.pg_constraint found.0 inside.0) in
        check_thing one.0 found.0 one.1 one.2 inside.1 name text found.2

    checks_covered : (name text : Bytes) → get d.checks name ≡ Some text → IsIn (name, text) (checks_of cat (oids.of (key.UserType q)))
    checks_covered name text at =
        let one = constraints.each (of_domain (record { path = q; domain = d; name = name; text = text })) (record { there = is; at = at }) in
        let shown : check_of one.0 ≡ Some (name, text) = ap (option_map (λ (x : Bytes). (one.0.conname, x))) one.2.said ∙ ap (λ (n : Bytes). Some (n, text)) one.2.name in
        in_given check_of (filter (of_type q) cat.pg_constraint) one.0 (name, text)
        (in_filter (of_type q) cat.pg_constraint one.0 (among_in cat.pg_constraint one.0 one.1) (has_tie (oids.of (key.UserType q)) one.0.contypid (sym one.2.domain)))
        shown

    checks_found : from_entries {R = bytes_cmp} (checks_of cat (oids.of (key.UserType q))) ≡ d.checks
    checks_found = map_stands nat_list_cmp_total bytes_cmp-IsAntisymmetric d.checks (checks_of cat (oids.of (key.UserType q))) checks_held checks_covered

  -- ---- what a row is

  value_so : (t : NamedType) (row : TypeRow) (v : Value) → get named (key.UserType t.path) ≡ Some v → row.oid ≡ oids.of (key.UserType t.path) → IsRowOfType oids.of v row → type_value cat row ≡ Some v
  value_so t row (value.Enum ls) is oid kind =
      rw (ap is_domain_letter kind.letter) (ap (λ (n : ℕ). Some (value.Enum (labels_of cat n))) oid ∙ ap (λ (xs : List Bytes). Some (value.Enum xs)) (labels_found texts named sound oids own cat led labels t.path ls is))
  value_so t row (value.Domain d) is oid kind =
      let base : typed cat row.typbasetype row.basetext ≡ Some (d.base, d.resolved) = ap (λ (n : ℕ). typed cat n row.basetext) kind.base ∙ typed_found texts named sound oids own cat led labels d.base d.resolved row.basetext kind.base_text (base_kept texts named sound oids own cat led labels t.path d is) in
      let checks : from_entries {R = bytes_cmp} (checks_of cat row.oid) ≡ d.checks = ap (λ (n : ℕ). from_entries {R = bytes_cmp} (checks_of cat n)) oid ∙ checks_found t.path d is in
      let default = default_so d.default row.typdefault kind.default_text in
      rw (ap is_domain_letter kind.letter)
      (
      ap (option_map (λ b. value.Domain (domain_of cat row b))) base
      ∙ (λ i. Some (value.Domain (record { base = d.base; resolved = d.resolved; not_null = kind.not_null i; «default» = default i; checks = checks i })))
      )
  value_so t row v is oid kind = elim kind [ ]

  owner_role : (t : NamedType) → IsType named t → IsMet named (key.Role t.owner, Asked.there)
  owner_role t is = owner_met texts named sound (object.Type t.path) t.owner is.owner

  good : (t : NamedType) → IsType named t → AreGood t.owner t.grants
  good t is = grants_good texts named sound (object.Type t.path) t.grants is.grants t.owner is.owner

  -- ---- by names

  abbrev given : NamedType → List Entry
  given t = (key.UserType t.path, t.type) ∷ (key.Owner (object.Type t.path), value.Owner t.owner) ∷ (key.Acl (object.Type t.path), value.Grants t.grants) ∷ []

  gives : (t : NamedType) (row : TypeRow) → IsType named t → IsTypeRow oids.of t row → given t ≡ type_entries cat row
  gives t row is at =
      let path : type_path cat.pg_namespace row ≡ Some t.path = type_row_path texts named sound oids.of own cat led t row is at in
      let owner : role_name cat.pg_authid row.typowner ≡ Some t.owner = ap (role_name cat.pg_authid) at.owner ∙ named_there texts named sound oids.of own cat.pg_authid led.roles t.owner (owner_role t is) in
      let type : type_value cat row ≡ Some t.type = value_so t row t.type is.there at.oid at.kind in
      sym (
      ap (λ (o : Option QName). under_path o (λ p. under (role_name cat.pg_authid row.typowner) (owned_type cat row p))) path
      ∙ ap (λ (o : Option Bytes). under o (owned_type cat row t.path)) owner
      ∙ ap (λ (o : Option Value). with_value o (λ v. (key.UserType t.path, v) ∷ type_rights row t.path t.owner)) type
      ∙ ap (λ (g : Grants). (key.UserType t.path, t.type) ∷ (key.Owner (object.Type t.path), value.Owner t.owner) ∷ (key.Acl (object.Type t.path), value.Grants g) ∷ []) (same_grants on.Type t.owner t.grants row.typacl (good t is) at.rights))

  types_held : (t : NamedType) (row : TypeRow) → IsType named t → IsTypeRow oids.of t row → AllByRecursion (IsHeld named of_types) (type_entries cat row)
  types_held t row is at = subst (λ (es : List Entry). AllByRecursion (IsHeld named of_types) es) (gives t row is at) ((is.there, refl), ((is.owner, refl), ((is.grants, refl), tt)))

  abbrev Covers : Key → Value → Type 0
  Covers k v = (t : NamedType) × IsType named t × ((row : TypeRow) → IsTypeRow oids.of t row → IsIn (k, v) (type_entries cat row))

  covers_by : (k : Key) (v : Value) (t : NamedType) → IsType named t → IsIn (k, v) (given t) → Covers k v
  covers_by k v t is among = (t, is, λ row at. subst (IsIn (k, v)) (gives t row is at) among)

  owner_covers : (o : Object) (v : Value) → get named (key.Owner o) ≡ Some v → is_type o ≡ true → Covers (key.Owner o) v
  owner_covers (object.Type q) v is kind =
      let owner = owner_at texts named sound (object.Type q) v is in
      let found = value_met named (key.UserType q, Asked.ownable) (object_met texts named sound (object.Type q) owner.0 (is ∙ ap Some owner.1)) in
      let whole = whole_type texts named sound oids.of own cat led q found.0 found.1 in
      let there : get named (key.Owner (object.Type q)) ≡ Some (value.Owner whole.thing.owner) = ap (λ (p : QName). get named (key.Owner (object.Type p))) (sym whole.path) ∙ whole.is.owner in
      let values : Some (value.Owner whole.thing.owner) ≡ Some v = sym there ∙ is in
      let same : value.Owner whole.thing.owner ≡ v = ap (λ (x : Option Value). unwrap_or x v) values in
      covers_by (key.Owner (object.Type q)) v whole.thing whole.is (inr (inl (λ i. (key.Owner (object.Type (whole.path i)), same i))))
  owner_covers o v is kind = cc

  acl_covers : (o : Object) (v : Value) → get named (key.Acl o) ≡ Some v → is_type o ≡ true → Covers (key.Acl o) v
  acl_covers (object.Type q) v is kind =
      let grants = grants_at texts named sound (object.Type q) v is in
      let found = value_met named (key.UserType q, Asked.takes grants.0) (takes_them texts named sound (object.Type q) grants.0 (is ∙ ap Some grants.1)) in
      let whole = whole_type texts named sound oids.of own cat led q found.0 found.1 in
      let there : get named (key.Acl (object.Type q)) ≡ Some (value.Grants whole.thing.grants) = ap (λ (p : QName). get named (key.Acl (object.Type p))) (sym whole.path) ∙ whole.is.grants in
      let values : Some (value.Grants whole.thing.grants) ≡ Some v = sym there ∙ is in
      let same : value.Grants whole.thing.grants ≡ v = ap (λ (x : Option Value). unwrap_or x v) values in
      covers_by (key.Acl (object.Type q)) v whole.thing whole.is (inr (inr (inl (λ i. (key.Acl (object.Type (whole.path i)), same i)))))
  acl_covers o v is kind = cc

  type_covers : (k : Key) (v : Value) → get named k ≡ Some v → of_types k ≡ true → Covers k v
  type_covers (key.UserType q) v is kind =
      let whole = whole_type texts named sound oids.of own cat led q v is in
      covers_by (key.UserType q) v whole.thing whole.is (inl (λ i. (key.UserType (whole.path i), whole.type i)))
  type_covers (key.Owner o) v is kind = owner_covers o v is kind
  type_covers (key.Acl o) v is kind = acl_covers o v is kind
  type_covers k v is kind = cc

  pub types_stand : AreEntries named of_types (flat_map (type_entries cat) cat.pg_type)
  types_stand = rows_give (IsType named) (IsTypeRow oids.of) cat.pg_type led.types named of_types (type_entries cat) types_held type_covers
