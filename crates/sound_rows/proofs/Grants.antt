-- The grants that a list of rights stands for.
use Rattle.std.proofs.Common.{◌≡◌, Bool, true, false, cond, not, ◌||◌, ◌&&◌, List, [], ◌∷◌, ◌++◌, map, Option, Some, None, refl, sym, ap, subst, ◌∙◌}
use Rattle.std.proofs.lemmas.Bool.{and_parts, or_parts}
use Rattle.std.specs.FinMap.{get, from_entries, get-from_entries}
use Rattle.std.specs.List.{AllByRecursion, list_all}
use Rattle.acl_text.specs.declared.rights.Privilege.{Privilege}
use Rattle.acl_text.specs.declared.rights.Privilege.TheVariants.{Insert, Select, Update, Delete, Truncate, References, Trigger, Usage, Create}
use Rattle.acl_text.specs.declared.rights.Right.{Right}
use Rattle.acl_text.specs.declared.list.AclItem.{AclItem}
use Rattle.cat_rows.specs.declared.roles.AuthidRow.{AuthidRow}
use Rattle.cat_model.specs.declared.grant.Rights.{Rights}
use Rattle.cat_model.specs.declared.holder.Holder.{Holder}
use Rattle.cat_model.specs.declared.holder.Item.{Item}
use Rattle.cat_model.specs.declared.holder.Holder.TheVariants.{Owner as OWNER, Public as PUBLIC, Role as ROLE}
use Rattle.cat_model.specs.Grants.{no_rights, table_rights, sequence_rights, schema_rights, type_rights, both_rights, has_rights}
use Rattle.cat_model.specs.HolderLaws.{holder_cmp_total, holder_cmp-IsAntisymmetric}
use Rattle.cat_model.specs.Lexemes.{same_text}
use Rattle.cat_model.specs.Values.{Bytes, Grants}
use Rattle.cat_names.specs.declared.rights.GrantKind.{GrantKind}
use Rattle.cat_names.specs.declared.rights.GrantKind.TheVariants as on
use Rattle.cat_names.specs.Grants.{one_right, listed_rights, listed_options, right_option, holder, item_of, grants_of, default_grants}
use Rattle.cat_names.specs.Lookups.{is_role_name, has_key}
use Rattle.cat_names.specs.Rights.{has_privilege, is_empty_list, is_grantee, giving, grantee_cmp, is_bad_item, has_bad_item, is_bad_acl}
use Rattle.cat_sound.specs.Rights.{is_within, IsItem}
use Rattle.cat_sound.proofs.Bools.{not_true}
use Rattle.cat_sound.proofs.Lists.{IsIn, of_member, of_each, all-mapped}
use Rattle.cat_sound.proofs.Maps.{find-in}
use Rattle.cat_sound.proofs.NewGrants.{AreFirst, owner_first, type_first}
use Rattle.cat_sound.proofs.RightsWithin.{within_same, within_left, within_either, within_both, has_more}
use Rattle.sound_rows.specs.Granted.{all_rights, AreGranted}
use Rattle.sound_rows.proofs.Among.{of_filter}

-- ---- rights that are listed

-- a right of a kind is among all of the kind
one_within : (kind : GrantKind) (p : Privilege) → has_privilege kind p ≡ true → is_within (one_right p) (all_rights kind) ≡ true
one_within on.Table Insert e = refl
one_within on.Table Select e = refl
one_within on.Table Update e = refl
one_within on.Table Delete e = refl
one_within on.Table Truncate e = refl
one_within on.Table References e = refl
one_within on.Table Trigger e = refl
one_within on.Table Usage e = absurd cc
one_within on.Table Create e = absurd cc
one_within on.Sequence Insert e = absurd cc
one_within on.Sequence Select e = refl
one_within on.Sequence Update e = refl
one_within on.Sequence Delete e = absurd cc
one_within on.Sequence Truncate e = absurd cc
one_within on.Sequence References e = absurd cc
one_within on.Sequence Trigger e = absurd cc
one_within on.Sequence Usage e = refl
one_within on.Sequence Create e = absurd cc
one_within on.Schema Insert e = absurd cc
one_within on.Schema Select e = absurd cc
one_within on.Schema Update e = absurd cc
one_within on.Schema Delete e = absurd cc
one_within on.Schema Truncate e = absurd cc
one_within on.Schema References e = absurd cc
one_within on.Schema Trigger e = absurd cc
one_within on.Schema Usage e = refl
one_within on.Schema Create e = refl
one_within on.Type Insert e = absurd cc
one_within on.Type Select e = absurd cc
one_within on.Type Update e = absurd cc
one_within on.Type Delete e = absurd cc
one_within on.Type Truncate e = absurd cc
one_within on.Type References e = absurd cc
one_within on.Type Trigger e = absurd cc
one_within on.Type Usage e = refl
one_within on.Type Create e = absurd cc

pub listed_within : (kind : GrantKind) (rs : List Right) → list_all (λ r. has_privilege kind r.privilege) rs ≡ true → is_within (listed_rights rs) (all_rights kind) ≡ true
listed_within kind [] e = refl
listed_within kind (r ∷ rs) e =
    let a = and_parts (has_privilege kind r.privilege) (list_all (λ r. has_privilege kind r.privilege) rs) e in
    within_either (one_right r.privilege) (listed_rights rs) (all_rights kind) (one_within kind r.privilege a.0) (listed_within kind rs a.1)

-- the options are among the rights
option_within : (r : Right) → is_within (right_option r) (one_right r.privilege) ≡ true
option_within r = by r.grant_option
  where
    by : (b : Bool) → is_within (cond {A = Rights} b (one_right r.privilege) no_rights) (one_right r.privilege) ≡ true
    by true = within_same (one_right r.privilege)
    by false = refl

options_within : (rs : List Right) → is_within (listed_options rs) (listed_rights rs) ≡ true
options_within [] = refl
options_within (r ∷ rs) = within_both (right_option r) (one_right r.privilege) (listed_options rs) (listed_rights rs) (option_within r) (options_within rs)

-- a list that isn't empty gives rights
one_has : (p : Privilege) → has_rights (one_right p) ≡ true
one_has Insert = refl
one_has Select = refl
one_has Update = refl
one_has Delete = refl
one_has Truncate = refl
one_has References = refl
one_has Trigger = refl
one_has Usage = refl
one_has Create = refl

listed_has : (rs : List Right) → is_empty_list rs ≡ false → has_rights (listed_rights rs) ≡ true
listed_has [] e = absurd cc
listed_has (r ∷ rs) e = has_more (one_right r.privilege) (both_rights (one_right r.privilege) (listed_rights rs)) (within_left (one_right r.privilege) (listed_rights rs)) (one_has r.privilege)

-- ---- items

module _ (kind : GrantKind) (roles : List AuthidRow) (owner : Bytes) where
  record IsGood (item : AclItem) : Type 0 where
    rights : list_all (λ r. has_privilege kind r.privilege) item.rights ≡ true
    grantee : is_grantee roles item.grantee ≡ true

  -- an item that isn't bad behind those before it
  good_item : (before : List AclItem) (item : AclItem) → is_bad_item kind roles before item ≡ false → IsGood item
  good_item before item e =
      let a = or_parts (not (list_all (λ r. has_privilege kind r.privilege) item.rights)) _ e in
      let b = or_parts (not (is_grantee roles item.grantee && is_role_name roles item.grantor)) (has_key grantee_cmp (map (λ i. i.grantee) before) item.grantee) a.1 in
      let named = and_parts (is_grantee roles item.grantee) (is_role_name roles item.grantor) (not_false _ b.0) in
      record { rights = not_false _ a.0; grantee = named.0 }
    where
      not_false : (c : Bool) → not c ≡ false → c ≡ true
      not_false true h = refl
      not_false false h = absurd cc

  good_items : (before items : List AclItem) → has_bad_item kind roles before items ≡ false → AllByRecursion IsGood items
  unfolding has_bad_item
  good_items before [] e = tt
  good_items before (item ∷ items) e =
      let a = or_parts (is_bad_item kind roles before item) (has_bad_item kind roles (before ++ item ∷ []) items) e in
      (good_item before item a.0, good_items (before ++ item ∷ []) items a.1)

  -- a role with rights is there, and isn't the owner
  abbrev IsHolder : Holder → Type 0
  IsHolder OWNER = Unit {0}
  IsHolder PUBLIC = Unit {0}
  IsHolder (ROLE name) = (is_role_name roles name ≡ true) × (same_text owner name ≡ false)

  holds : (grantee : Option Bytes) → is_grantee roles grantee ≡ true → IsHolder (holder owner grantee)
  holds None e = tt
  holds (Some name) e = by (same_text owner name) refl
    where
      by : (b : Bool) → same_text owner name ≡ b → IsHolder (cond {A = Holder} b OWNER (ROLE name))
      by true is = tt
      by false is = (e, is)

  record IsEntry (e : Holder × Item) : Type 0 where
    item : IsItem e.1
    within : is_within e.1.rights (all_rights kind) ≡ true
    holder : IsHolder e.0

  entry : (i : AclItem) → IsGood i → is_empty_list i.rights ≡ false → IsEntry (holder owner i.grantee, item_of i)
  entry i good some = record {
    item = record { gives = listed_has i.rights some; options = options_within i.rights };
    within = listed_within kind i.rights good.rights;
    holder = holds i.grantee good.grantee;
  }

  entries_good : (items : List AclItem) → has_bad_item kind roles [] (giving items) ≡ false → AllByRecursion IsEntry (map (λ i. (holder owner i.grantee, item_of i)) (giving items))
  entries_good items e =
      let good = good_items [] (giving items) e in
      all-mapped IsEntry (λ (i : AclItem). (holder owner i.grantee, item_of i)) (giving items)
      (of_each (λ (i : AclItem). IsEntry (holder owner i.grantee, item_of i)) (giving items) (λ i among.
      entry i (of_member IsGood (giving items) good i among) (not_true (is_empty_list i.rights) (of_filter (λ (j : AclItem). not (is_empty_list j.rights)) items i among).1)))

  at : (items : List AclItem) → has_bad_item kind roles [] (giving items) ≡ false → (h : Holder) (item : Item) → get (grants_of kind owner (Some items)) h ≡ Some item → IsEntry (h, item)
  unfolding grants_of
  at items e h item is =
      let es = map (λ (i : AclItem). (holder owner i.grantee, item_of i)) (giving items) in
      of_member IsEntry es (entries_good items e) (h, item) (find-in holder_cmp_total holder_cmp-IsAntisymmetric es h item (sym (get-from_entries holder_cmp_total es h) ∙ is))

  first_good : (grants : Grants) → AreFirst grants (all_rights kind) → AreGranted kind roles owner grants
  first_good grants first = record {
    items = first.items;
    within = first.within;
    roles_there = λ name item is. absurd (let none = first.none name in cc);
    others = λ name item is. absurd (let none = first.none name in cc);
  }

default_first : (kind : GrantKind) → AreFirst (default_grants kind) (all_rights kind)
default_first on.Table = owner_first table_rights refl refl
default_first on.Sequence = owner_first sequence_rights refl refl
default_first on.Schema = owner_first schema_rights refl refl
default_first on.Type = type_first

pub granted : (kind : GrantKind) (roles : List AuthidRow) (owner : Bytes) (acl : Option (List AclItem)) → is_bad_acl kind roles acl ≡ false → AreGranted kind roles owner (grants_of kind owner acl)
unfolding grants_of
granted kind roles owner None e = first_good kind roles owner (default_grants kind) (default_first kind)
granted kind roles owner (Some items) e = record {
  items = λ h item is. (at kind roles owner items e h item is).item;
  within = λ h item is. (at kind roles owner items e h item is).within;
  roles_there = λ name item is. (at kind roles owner items e (ROLE name) item is).holder.0;
  others = λ name item is. (at kind roles owner items e (ROLE name) item is).holder.1;
}
