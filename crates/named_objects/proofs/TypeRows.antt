-- The rows of pg_type meet the table's conditions, and texts name the types that oids lead to.
use Rattle.std.proofs.Common.{◌≡◌, ◌⊎◌, ℕ, zero, suc, pos, Bool, true, false, true≢false, not, ◌&&◌, ◌||◌, ◌++◌, List, [], ◌∷◌, Option, Some, None, unwrap_or, refl, ap, sym, ◌∙◌, inl, inr, if◌then◌else◌}
use Rattle.std.specs.Ordering.{nat_cmp, eq_by_cmp}
use Rattle.std.specs.FinMap.{get}
use Rattle.std.specs.List.{AllByRecursion, list_all, list_any}
use Rattle.cat_rows.specs.declared.catalogue.Catalogue.{Catalogue}
use Rattle.cat_rows.specs.declared.types.TypeRow.{TypeRow}
use Rattle.cat_model.specs.declared.object.QName.{QName}
use Rattle.cat_model.specs.declared.object.Object.TheVariants as object
use Rattle.cat_model.specs.declared.key.Key.{Key}
use Rattle.cat_model.specs.declared.key.Key.TheVariants as key
use Rattle.cat_model.specs.declared.type_name.TypeName.{TypeName}
use Rattle.cat_model.specs.declared.type_name.TypeName.TheVariants.{Words, Path}
use Rattle.cat_model.specs.declared.value.Value.{Value}
use Rattle.cat_model.specs.declared.value.Value.TheVariants as value
use Rattle.cat_model.specs.declared.value.Domain.{Domain}
use Rattle.cat_model.specs.declared.value.Resolved.{Resolved}
use Rattle.cat_model.specs.Keys.{key_eq}
use Rattle.cat_model.specs.KeyLaws.{key_eq-Decides}
use Rattle.cat_model.specs.References.{is_system, expression_references}
use Rattle.cat_model.specs.TypeEffects.{default_references}
use Rattle.cat_model.specs.Trees.{same_path}
use Rattle.cat_model.specs.Values.{Bytes, Named}
use Rattle.cat_model.proofs.MarkLaws.{same_path-self, same_path-equal}
use Rattle.cat_names.specs.declared.rights.GrantKind.TheVariants as on
use Rattle.cat_names.specs.Lookups.{has_oid, is_no_oid, is_role, role_name, schema_oids}
use Rattle.cat_names.specs.Rights.{is_bad_acl, is_by_other, other_left_out}
use Rattle.cat_book.specs.Chains.{is_domain_letter, type_of, has_base, ends_behind, ends_within, chain_ends}
use Rattle.cat_book.specs.Leads.{type_oids, is_base_there}
use Rattle.cat_book.specs.Meets.{Meets}
use Rattle.cat_book.specs.Paths.{type_path}
use Rattle.cat_book.specs.Rules.{RowName, name_cmp, place_cmp}
use Rattle.cat_book.proofs.ChainEnds.{ends_at_all}
use Rattle.row_texts.specs.TypeTexts.{type_named}
use Rattle.well_formed.specs.Agreeing.{agrees, agrees_if_named, is_type_named, is_met, are_met}
use Rattle.well_formed.specs.Types.{is_there, is_good_default, is_good_domain, is_bad_type, kind_left_out, type_left_out, type_rules}
use Rattle.cat_sound.specs.Asked.{Asked}
use Rattle.cat_sound.specs.Asks.{type_asks, all_there}
use Rattle.cat_sound.specs.Beside.{EndsBehind, EndsWithin}
use Rattle.cat_sound.specs.Beside as beside
use Rattle.cat_sound.specs.Rights.{AreWithin}
use Rattle.cat_sound.specs.Texts.{Texts}
use Rattle.cat_sound.specs.Sound.{IsMet, IsSound}
use Rattle.cat_sound.proofs.Changes.{value_met}
use Rattle.cat_sound.proofs.Checks.{checks_asks}
use Rattle.cat_sound.proofs.Lists.{all-front, all-back, mapped-all}
use Rattle.named_tables.specs.Oids.{Oids, AreOids}
use Rattle.named_tables.proofs.Acls.{by_owner, no_bad_acl}
use Rattle.named_tables.proofs.Owned.{owner_met, takes_them, holder_met, grants_good, met_by}
use Rattle.named_tables.proofs.RightLists.{rights_for}
use Rattle.named_tables.proofs.Roles.{named_there, is_role_met, is_name_met}
use Rattle.named_tables.proofs.Ties.{tie}
use Rattle.named_tables.proofs.Rows.{name_cmp-IsAntisymmetric, among_in, one_oid, each_row, distinct_keys, no_keys, no_marks}
use Rattle.named_objects.specs.Oids.{type_oid}
use Rattle.named_objects.specs.Types.{NamedType, IsType, IsDefaultText, IsDomainRow, IsRowOfType, IsTypeRow}
use Rattle.named_objects.proofs.Defaults.{is_default_said}
use Rattle.named_objects.proofs.Found.{has_mapped}
use Rattle.named_objects.proofs.Lookups.{AreLedTo, has_tie, has_schema_oid, type_found, type_path_found, type_row_path, has_class_path, has_type_path, same_type}

or_right : (a b : Bool) → b ≡ true → a || b ≡ true
or_right true b e = refl
or_right false b e = e

module _ (texts : Texts) (named : Named) (sound : IsSound texts named) (oids : Oids) (own : AreOids named oids) (cat : Catalogue) (led : AreLedTo named oids cat) where
  -- ---- the type that a text names

  user_type : (q : QName) (end : Resolved) → AllByRecursion (IsMet named) (type_asks (Path q) end) → is_system q.schema ≡ false → (v : Value) × (get named (key.UserType q) ≡ Some v)
  user_type q end met e = by (is_system q.schema) refl met
    where
      by : (b : Bool) → is_system q.schema ≡ b → AllByRecursion (IsMet named) (if b then [] else (key.UserType q, Asked.comes_to q end) ∷ []) → (v : Value) × (get named (key.UserType q) ≡ Some v)
      by true system none = absurd (true≢false (sym system ∙ e))
      by false other one = value_met named (key.UserType q, Asked.comes_to q end) one.0

  named_at : (type : TypeName) (end : Resolved) → AllByRecursion (IsMet named) (type_asks type end) → agrees cat (type_oid oids type) type ≡ true
  named_at (Words text) end met = refl
  named_at (Path q) end met = by (is_system q.schema) refl
    where
      by : (b : Bool) → is_system q.schema ≡ b → agrees cat (if b then 0 else oids (key.UserType q)) (Path q) ≡ true
      by true e = e
      by false e =
          let found = user_type q end met e in
          rw (own.some (key.UserType q) found.0 found.1 refl, type_path_found texts named sound oids own cat led q found.0 found.1) (same_path-self q)

  pub type_text_named : (type : TypeName) (end : Resolved) (text : Bytes) → type_named text ≡ Some type → AllByRecursion (IsMet named) (type_asks type end) → is_type_named cat (type_oid oids type) text ≡ true
  type_text_named type end text said met = ap (agrees_if_named cat (type_oid oids type)) said ∙ named_at type end met

  pub base_there : (type : TypeName) (end : Resolved) → AllByRecursion (IsMet named) (type_asks type end) → is_base_there cat.pg_type (type_oid oids type) ≡ true
  base_there (Words text) end met = refl
  base_there (Path q) end met = by (is_system q.schema) refl
    where
      by : (b : Bool) → is_system q.schema ≡ b → is_base_there cat.pg_type (if b then 0 else oids (key.UserType q)) ≡ true
      by true e = refl
      by false e =
          let there = user_type q end met e in
          let found = type_found texts named sound oids own cat led q there.0 there.1 in
          or_right (is_no_oid (oids (key.UserType q))) (has_oid (type_oids cat.pg_type) (oids (key.UserType q)))
          (ap (has_oid (type_oids cat.pg_type)) (sym found.oid) ∙ has_mapped nat_cmp (λ (t : TypeRow). t.oid) cat.pg_type found.row (has_tie found.row.oid found.row.oid refl) (among_in cat.pg_type found.row found.among))

  -- ---- chains

  -- a type over none ends at once
  ends_here : (n : ℕ) (row : TypeRow) → has_base row ≡ false → ends_within (suc n) cat.pg_type row ≡ true
  unfolding ends_within
  ends_here n row none = ap (λ (b : Bool). ends_behind (ends_within n cat.pg_type) (if b then type_of cat.pg_type row.typbasetype else None)) none

  ends_next : (n : ℕ) (row next : TypeRow) → has_base row ≡ true → type_of cat.pg_type row.typbasetype ≡ Some next → ends_within n cat.pg_type next ≡ true → ends_within (suc n) cat.pg_type row ≡ true
  unfolding ends_within
  ends_next n row next some found ends =
      ap (λ (b : Bool). ends_behind (ends_within n cat.pg_type) (if b then type_of cat.pg_type row.typbasetype else None)) some
      ∙ ap (ends_behind (ends_within n cat.pg_type)) found
      ∙ ends

  no_base : (row : TypeRow) → row.typbasetype ≡ 0 → has_base row ≡ false
  no_base row none = ap (λ (n : ℕ). is_domain_letter row.typtype && not (is_no_oid n)) none ∙ and_false (is_domain_letter row.typtype)
    where
      and_false : (b : Bool) → b && false ≡ false
      and_false true = refl
      and_false false = refl

  base_met : (q : QName) (d : Domain) → get named (key.UserType q) ≡ Some (value.Domain d) → AllByRecursion (IsMet named) (type_asks d.base d.resolved)
  base_met q d is =
      let at = sound.each (key.UserType q) (value.Domain d) is in
      let front = all-front (IsMet named) (type_asks d.base d.resolved ++ all_there (default_references d.default)) (checks_asks d.checks) at.others.1.1.1 in
      all-front (IsMet named) (type_asks d.base d.resolved) (all_there (default_references d.default)) front

  default_met : (q : QName) (d : Domain) → get named (key.UserType q) ≡ Some (value.Domain d) → AllByRecursion (IsMet named) (all_there (default_references d.default))
  default_met q d is =
      let at = sound.each (key.UserType q) (value.Domain d) is in
      let front = all-front (IsMet named) (type_asks d.base d.resolved ++ all_there (default_references d.default)) (checks_asks d.checks) at.others.1.1.1 in
      all-back (IsMet named) (type_asks d.base d.resolved) (all_there (default_references d.default)) front

  abbrev Step : ℕ → Type 0
  Step n = (q : QName) (d : Domain) (row : TypeRow) → get named (key.UserType q) ≡ Some (value.Domain d) → IsDomainRow oids d row → EndsWithin n named d.base → ends_within (suc (suc n)) cat.pg_type row ≡ true

  plain_end : (n : ℕ) (d : Domain) (row : TypeRow) → IsDomainRow oids d row → type_oid oids d.base ≡ 0 → ends_within (suc n) cat.pg_type row ≡ true
  plain_end n d row at none = ends_here n row (no_base row (at.base ∙ none))

  system_zero : (p : QName) → is_system p.schema ≡ true → type_oid oids (Path p) ≡ 0
  system_zero p e = ap (λ (b : Bool). if b then 0 else oids (key.UserType p)) e

  behind : (n : ℕ) (p : QName) (row : TypeRow) → Step n → (o : Option Value) → get named (key.UserType p) ≡ o → EndsBehind (EndsWithin n named) (beside.base_of o) → row.typbasetype ≡ oids (key.UserType p) → is_domain_letter row.typtype ≡ true → ends_within (suc (suc (suc n))) cat.pg_type row ≡ true
  behind n p row step (Some (value.Enum ls)) is ends base letter =
      let found = type_found texts named sound oids own cat led p (value.Enum ls) is in
      let some : has_base row ≡ true = rw (letter, ap is_no_oid base ∙ own.some (key.UserType p) (value.Enum ls) is refl) refl in
      let none : has_base found.row ≡ false = ap (λ (b : Bool). b && not (is_no_oid found.row.typbasetype)) (ap is_domain_letter found.kind.letter) in
      ends_next (suc (suc n)) row found.row some (ap (type_of cat.pg_type) base ∙ found.found) (ends_here (suc n) found.row none)
  behind n p row step (Some (value.Domain d)) is ends base letter =
      let found = type_found texts named sound oids own cat led p (value.Domain d) is in
      let some : has_base row ≡ true = rw (letter, ap is_no_oid base ∙ own.some (key.UserType p) (value.Domain d) is refl) refl in
      ends_next (suc (suc n)) row found.row some (ap (type_of cat.pg_type) base ∙ found.found) (step p d found.row is found.kind ends)
  behind n p row step (Some v) is ends base letter = elim ends [ ]
  behind n p row step None is ends base letter = elim ends [ ]

  over_path : (n : ℕ) (d : Domain) (row : TypeRow) (p : QName) → Step n → IsDomainRow oids d row → d.base ≡ Path p → (is_system p.schema ≡ true) ⊎ EndsBehind (EndsWithin n named) (beside.base_of (get named (key.UserType p))) → (b : Bool) → is_system p.schema ≡ b → ends_within (suc (suc (suc n))) cat.pg_type row ≡ true
  over_path n d row p step at base ends true e = plain_end (suc (suc n)) d row at (ap (type_oid oids) base ∙ system_zero p e)
  over_path n d row p step at base (inl system) false e = absurd (true≢false (sym system ∙ e))
  over_path n d row p step at base (inr more) false e =
      behind n p row step (get named (key.UserType p)) refl more (at.base ∙ ap (type_oid oids) base ∙ ap (λ (b : Bool). if b then 0 else oids (key.UserType p)) e) (ap is_domain_letter at.letter)

  chain : (n : ℕ) → Step n
  chain zero q d row is at ends = by d.base refl ends
    where
      by : (t : TypeName) → d.base ≡ t → EndsWithin zero named t → ends_within (suc (suc zero)) cat.pg_type row ≡ true
      by (Words text) base ends = plain_end (suc zero) d row at (ap (type_oid oids) base)
      by (Path p) base ends = plain_end (suc zero) d row at (ap (type_oid oids) base ∙ system_zero p ends)
  chain (suc n) q d row is at ends = by (chain n) d.base refl ends
    where
      by : Step n → (t : TypeName) → d.base ≡ t → EndsWithin (suc n) named t → ends_within (suc (suc (suc n))) cat.pg_type row ≡ true
      by step (Words text) base ends = plain_end (suc (suc n)) d row at (ap (type_oid oids) base)
      by step (Path p) base ends = over_path n d row p step at base ends (is_system p.schema) refl

  chain_end : (q : QName) (d : Domain) (row : TypeRow) → get named (key.UserType q) ≡ Some (value.Domain d) → IsDomainRow oids d row → chain_ends cat.pg_type row ≡ true
  chain_end q d row is at =
      let ends = sound.beside.chains q d is in
      ends_at_all cat.pg_type row (suc (suc ends.0)) (chain ends.0 q d row is at ends.1)

  -- ---- the default of a domain

  other_met : (q : QName) (k : Key) → IsMet named (k, Asked.there) → key_eq (key.UserType q) k ≡ false → is_met cat (Some q) k ≡ true
  other_met q (key.Rel r) met other = let there = value_met named (key.Rel r, Asked.there) met in has_class_path texts named sound oids own cat led r there.0 there.1
  other_met q (key.UserType r) met other =
      let there = value_met named (key.UserType r, Asked.there) met in
      rw (has_type_path texts named sound oids own cat led r there.0 there.1) (by (same_path q r) refl)
    where
      by : (b : Bool) → same_path q r ≡ b → not (same_path q r) ≡ true
      by false e = ap not e
      by true e = absurd (true≢false (sym ((key_eq-Decides (key.UserType q) (key.UserType r)).1 (ap key.UserType (same_path-equal q r e))) ∙ other))
  other_met q k met other = refl

  others_met : (q : QName) (ks : List Key) → AllByRecursion (λ k. IsMet named (k, Asked.there)) ks → list_any (key_eq (key.UserType q)) ks ≡ false → list_all (is_met cat (Some q)) ks ≡ true
  others_met q [] all none = refl
  others_met q (k ∷ ks) all none =
      rw (other_met q k all.0 (or_left (key_eq (key.UserType q) k) (list_any (key_eq (key.UserType q)) ks) none), others_met q ks all.1 (or_behind (key_eq (key.UserType q) k) (list_any (key_eq (key.UserType q)) ks) none)) refl
    where
      or_left : (a b : Bool) → a || b ≡ false → a ≡ false
      or_left true b e = cc
      or_left false b e = refl

      or_behind : (a b : Bool) → a || b ≡ false → b ≡ false
      or_behind true b e = cc
      or_behind false b e = e

  good_default : (q : QName) (default said : Option Bytes) → IsDefaultText default said → AllByRecursion (IsMet named) (all_there (default_references default)) → list_any (key_eq (key.UserType q)) (default_references default) ≡ false → is_good_default cat (Some q) said ≡ true
  good_default q None None is met other = refl
  good_default q (Some text) (Some said) is met other =
      let met_all : are_met cat (Some q) said ≡ true = ap (are_met cat (Some q)) is.0 ∙ others_met q (expression_references text) (mapped-all (IsMet named) (λ (k : Key). (k, Asked.there)) (expression_references text) met) other in
      rw (is_default_said said text is.1, met_all) refl
  good_default q None (Some said) is met other = elim is [ ]
  good_default q (Some text) None is met other = elim is [ ]

  -- ---- all of it

  same_key : (t s : NamedType) (a b : TypeRow) (k l : ℕ) → IsType named t → IsType named s → IsTypeRow oids t a → IsTypeRow oids s b → Some a.oid ≡ Some k → Some b.oid ≡ Some l → eq_by_cmp nat_cmp l k ≡ true → t ≡ s
  same_key t s a b k l is_t is_s at_a at_b is_k is_l ties =
      let equal : oids (key.UserType t.path) ≡ oids (key.UserType s.path) = sym at_a.oid ∙ one_oid a.oid b.oid k l is_k is_l ties ∙ at_b.oid in
      let keys : key.UserType t.path ≡ key.UserType s.path = own.apart (key.UserType t.path) (key.UserType s.path) t.type s.type is_t.there is_s.there refl refl refl equal in
      same_type texts named sound oids own cat led t s is_t is_s cc

  same_name : (t s : NamedType) (a b : TypeRow) (k l : RowName) → IsType named t → IsType named s → IsTypeRow oids t a → IsTypeRow oids s b → Some (a.typnamespace, 0, pos 0, a.typname) ≡ Some k → Some (b.typnamespace, 0, pos 0, b.typname) ≡ Some l → eq_by_cmp name_cmp l k ≡ true → t ≡ s
  same_name t s a b k l is_t is_s at_a at_b is_k is_l ties =
      let names : l ≡ k = tie name_cmp-IsAntisymmetric l k ties in
      let first : (a.typnamespace, 0, pos 0, a.typname) ≡ k = ap (λ (o : Option RowName). unwrap_or o k) is_k in
      let second : (b.typnamespace, 0, pos 0, b.typname) ≡ l = ap (λ (o : Option RowName). unwrap_or o l) is_l in
      let all = first ∙ sym names ∙ sym second in
      let equal : oids (key.Schema t.path.schema) ≡ oids (key.Schema s.path.schema) = sym at_a.schema ∙ ap (λ (n : RowName). n.0) all ∙ at_b.schema in
      let one = value_met named (key.Schema t.path.schema, Asked.there) (sound.each (key.UserType t.path) t.type is_t.there).others.0 in
      let two = value_met named (key.Schema s.path.schema, Asked.there) (sound.each (key.UserType s.path) s.type is_s.there).others.0 in
      let keys : key.Schema t.path.schema ≡ key.Schema s.path.schema = own.apart (key.Schema t.path.schema) (key.Schema s.path.schema) one.0 two.0 one.1 two.1 refl refl refl equal in
      let schemas : t.path.schema ≡ s.path.schema = cc in
      let words : t.path.name ≡ s.path.name = sym at_a.name ∙ ap (λ (n : RowName). n.3) all ∙ at_b.name in
      same_type texts named sound oids own cat led t s is_t is_s (λ i. record { schema = schemas i; name = words i })

  owner_role : (t : NamedType) → IsType named t → IsMet named (key.Role t.owner, Asked.there)
  owner_role t is = owner_met texts named sound (object.Type t.path) t.owner is.owner

  base_so : (t : NamedType) (row : TypeRow) → (v : Value) → get named (key.UserType t.path) ≡ Some v → IsRowOfType oids v row → is_base_there cat.pg_type row.typbasetype ≡ true
  base_so t row (value.Enum ls) is kind = ap (is_base_there cat.pg_type) kind.base
  base_so t row (value.Domain d) is kind = ap (is_base_there cat.pg_type) kind.base ∙ base_there d.base d.resolved (base_met t.path d is)
  base_so t row v is kind = elim kind [ ]

  there : (t : NamedType) (row : TypeRow) → IsType named t → IsTypeRow oids t row → is_there cat row ≡ true
  there t row is at =
      let schema : has_oid (schema_oids cat.pg_namespace) row.typnamespace ≡ true = ap (has_oid (schema_oids cat.pg_namespace)) at.schema ∙ has_schema_oid texts named sound oids own cat led t.path.schema (sound.each (key.UserType t.path) t.type is.there).others.0 in
      let role : is_role cat.pg_authid row.typowner ≡ true = ap (is_role cat.pg_authid) at.owner ∙ is_role_met texts named sound oids own cat.pg_authid led.roles t.owner (owner_role t is) in
      rw (schema, role, base_so t row t.type is.there at.kind) refl

  good_rights : (t : NamedType) (row : TypeRow) → IsType named t → IsTypeRow oids t row → is_bad_acl on.Type cat.pg_authid row.typacl ≡ false
  good_rights t row is at =
      no_bad_acl on.Type cat.pg_authid t.owner
      (is_name_met texts named sound oids own cat.pg_authid led.roles t.owner (owner_role t is))
      t.grants row.typacl
      (grants_good texts named sound (object.Type t.path) t.grants is.grants t.owner is.owner)
      (within t.type is.there at.kind)
      (λ name item has. is_name_met texts named sound oids own cat.pg_authid led.roles name (holder_met texts named sound (object.Type t.path) t.grants is.grants name item has))
      at.rights
    where
      takes : IsMet named (key.UserType t.path, Asked.takes t.grants)
      takes = takes_them texts named sound (object.Type t.path) t.grants is.grants

      within : (v : Value) → get named (key.UserType t.path) ≡ Some v → IsRowOfType oids v row → AreWithin t.grants (rights_for on.Type)
      within (value.Enum ls) has kind = met_by named (key.UserType t.path, Asked.takes t.grants) (value.Enum ls) has takes
      within (value.Domain d) has kind = met_by named (key.UserType t.path, Asked.takes t.grants) (value.Domain d) has takes
      within v has kind = elim kind [ ]

  good_kind : (t : NamedType) (row : TypeRow) → IsType named t → IsTypeRow oids t row → (v : Value) → get named (key.UserType t.path) ≡ Some v → IsRowOfType oids v row → (is_domain_letter row.typtype && not (is_good_domain cat row)) ≡ false
  good_kind t row is at (value.Enum ls) has kind = ap (λ (b : Bool). b && not (is_good_domain cat row)) (ap is_domain_letter kind.letter)
  good_kind t row is at (value.Domain d) has kind =
      let text : is_type_named cat row.typbasetype row.basetext ≡ true = ap (λ (n : ℕ). is_type_named cat n row.basetext) kind.base ∙ type_text_named d.base d.resolved row.basetext kind.base_text (base_met t.path d has) in
      let ends : chain_ends cat.pg_type row ≡ true = chain_end t.path d row has kind in
      let path : type_path cat.pg_namespace row ≡ Some t.path = type_row_path texts named sound oids own cat led t row is at in
      let default : is_good_default cat (type_path cat.pg_namespace row) row.typdefault ≡ true = ap (λ (o : Option QName). is_good_default cat o row.typdefault) path ∙ good_default t.path d.default row.typdefault kind.default_text (default_met t.path d has) (sound.each (key.UserType t.path) (value.Domain d) has).own.others in
      let good : is_good_domain cat row ≡ true = rw (text, ends, default) refl in
      rw (ap is_domain_letter kind.letter, good) refl
  good_kind t row is at v has kind = elim kind [ ]

  known : (row : TypeRow) (v : Value) → IsRowOfType oids v row → kind_left_out row.typtype ≡ None
  known row (value.Enum ls) kind = ap kind_left_out kind.letter
  known row (value.Domain d) kind = ap kind_left_out kind.letter
  known row v kind = elim kind [ ]

  inside : (t : NamedType) (row : TypeRow) → IsType named t → IsTypeRow oids t row → type_left_out cat row ≡ None
  inside t row is at =
      let owner : role_name cat.pg_authid row.typowner ≡ Some t.owner = ap (role_name cat.pg_authid) at.owner ∙ named_there texts named sound oids own cat.pg_authid led.roles t.owner (owner_role t is) in
      let granted : other_left_out (is_by_other (role_name cat.pg_authid row.typowner) row.typacl) ≡ None = ap (λ (r : Option Bytes). other_left_out (is_by_other r row.typacl)) owner ∙ ap other_left_out (by_owner on.Type t.owner t.grants row.typacl at.rights) in
      rw (known row t.type at.kind, granted) refl

  pub types_meet : Meets type_rules cat cat.pg_type
  types_meet = record {
    oids = distinct_keys (IsType named) (IsTypeRow oids) cat.pg_type led.types nat_cmp (λ r. Some r.oid) same_key;
    names = distinct_keys (IsType named) (IsTypeRow oids) cat.pg_type led.types name_cmp (λ r. Some (r.typnamespace, 0, pos 0, r.typname)) same_name;
    places = no_keys place_cmp cat.pg_type;
    marks = no_marks cat.pg_type;
    objects = each_row (IsType named) (IsTypeRow oids) cat.pg_type led.types (λ row. is_no_oid row.oid ≡ false) (λ t row is at. ap is_no_oid at.oid ∙ own.some (key.UserType t.path) t.type is.there refl);
    there = each_row (IsType named) (IsTypeRow oids) cat.pg_type led.types (λ row. not (is_there cat row) ≡ false) (λ t row is at. ap not (there t row is at));
    texts = each_row (IsType named) (IsTypeRow oids) cat.pg_type led.types (λ row. is_bad_type cat row ≡ false) (λ t row is at. rw (good_rights t row is at, good_kind t row is at t.type is.there at.kind) refl);
    inside = each_row (IsType named) (IsTypeRow oids) cat.pg_type led.types (λ row. type_left_out cat row ≡ None) inside;
    needed = refl;
  }
