-- A list of rights that stands for grants: it is named as these grants, none of its items is bad, and the owner granted all.
use Rattle.std.proofs.Common.{◌≡◌, Bool, true, false, true≢false, cond, not, ◌&&◌, ◌||◌, T, List, [], ◌∷◌, ◌++◌, map, Option, Some, None, refl, ap, sym, subst, ◌∙◌, inl, inr}
use Rattle.std.specs.declared.cmp.Ordering.TheVariants.{Equal}
use Rattle.std.specs.Ordering.{is_lt, eq_by_cmp}
use Rattle.std.specs.Cmp.{tied_itself}
use Rattle.std.specs.FinMap.{get, entries, from_entries, is_sorted, entries_sorted, get-entries, get-from_entries, same_map}
use Rattle.std.specs.FinMap.Entries.{below_all}
use Rattle.std.specs.List.{AllByRecursion, list_any}
use Rattle.acl_text.specs.declared.list.AclItem.{AclItem}
use Rattle.cat_rows.specs.declared.roles.AuthidRow.{AuthidRow}
use Rattle.cat_model.specs.declared.holder.Holder.{Holder}
use Rattle.cat_model.specs.declared.holder.Holder.TheVariants.{Owner as OWNER, Public as PUBLIC, Role as ROLE}
use Rattle.cat_model.specs.declared.holder.Item.{Item}
use Rattle.cat_model.specs.Holders.{holder_cmp}
use Rattle.cat_model.specs.HolderLaws.{holder_cmp_total, holder_cmp-IsAntisymmetric, bytes_cmp-IsAntisymmetric}
use Rattle.cat_model.specs.Lexemes.{same_text}
use Rattle.cat_model.specs.Values.{Bytes, Grants}
use Rattle.cat_model.proofs.MarkLaws.{same_text-self}
use Rattle.cat_names.specs.declared.rights.GrantKind.{GrantKind}
use Rattle.cat_names.specs.Grants.{holder, item_of, grants_of}
use Rattle.cat_names.specs.Lookups.{has_key, is_role_name}
use Rattle.cat_names.specs.Rights.{is_empty_list, is_grantee, grantee_cmp, giving, is_bad_item, has_bad_item, is_bad_acl, is_others_item, is_by_other}
use Rattle.cat_sound.specs.Rights.{is_within, IsItem, AreItems, AreWithin}
use Rattle.cat_sound.proofs.Lists.{IsIn}
use Rattle.cat_sound.proofs.Maps.{of_entry}
use Rattle.named_tables.specs.Rights.{grantee, acl_item, rights_list, IsAcl}
use Rattle.named_tables.proofs.Ties.{tie}
use Rattle.named_tables.proofs.RightLists.{item_back, some_rights, rights_for, rights_fit}

-- ---- holders

-- a holder that isn't the owner by name
abbrev pub IsApart : Bytes → Holder → Type 0
IsApart owner OWNER = Unit {0}
IsApart owner PUBLIC = Unit {0}
IsApart owner (ROLE name) = same_text owner name ≡ false

holder_back : (owner : Bytes) (h : Holder) → IsApart owner h → holder owner (grantee owner h) ≡ h
holder_back owner OWNER apart = rw (same_text-self owner) refl
holder_back owner PUBLIC apart = refl
holder_back owner (ROLE name) apart = rw apart refl

-- ---- back to grants

-- an item of a holder, in order
record IsGood (owner : Bytes) (e : Holder × Item) : Type 0 where
  item : IsItem e.1
  apart : IsApart owner e.0

abbrev given_by : Bytes → AclItem → Holder × Item
given_by owner i = (holder owner i.grantee, item_of i)

items_back : (owner : Bytes) (es : List (Holder × Item)) → AllByRecursion (IsGood owner) es → map (given_by owner) (giving (map (acl_item owner) es)) ≡ es
items_back owner [] all = refl
items_back owner (e ∷ es) all =
    let some : is_empty_list (rights_list e.1) ≡ false = some_rights e.1 all.0.item.gives in
    let here : giving (map (acl_item owner) (e ∷ es)) ≡ acl_item owner e ∷ giving (map (acl_item owner) es) = ap (λ (b : Bool). cond (not b) (acl_item owner e ∷ giving (map (acl_item owner) es)) (giving (map (acl_item owner) es))) some in
    let holders = holder_back owner e.0 all.0.apart in
    let items = item_back e.1 all.0.item in
    let more = items_back owner es all.1 in
    ap (map (given_by owner)) here ∙ (λ i. (holders i, items i) ∷ more i)

from_its_entries : (g : Grants) → from_entries (entries g) ≡ g
from_its_entries g = same_map holder_cmp_total holder_cmp-IsAntisymmetric (from_entries (entries g)) g (λ q. get-from_entries holder_cmp_total (entries g) q ∙ sym (get-entries g q))

-- grants whose items are in order, of holders that aren't the owner by name
pub record AreGood (owner : Bytes) (g : Grants) : Type 0 where
  pub items : AreItems g
  pub apart : (name : Bytes) (item : Item) → get g (ROLE name) ≡ Some item → same_text owner name ≡ false

good_at : (owner : Bytes) (g : Grants) → AreGood owner g → (h : Holder) (item : Item) → get g h ≡ Some item → IsApart owner h
good_at owner g good OWNER item is = tt
good_at owner g good PUBLIC item is = tt
good_at owner g good (ROLE name) item is = good.apart name item is

all_good : (owner : Bytes) (g : Grants) → AreGood owner g → (es : List (Holder × Item)) → ((e : Holder × Item) → IsIn e es → get g e.0 ≡ Some e.1) → AllByRecursion (IsGood owner) es
all_good owner g good [] there = tt
all_good owner g good (e ∷ es) there = (
  record { item = good.items e.0 e.1 (there e (inl refl)); apart = good_at owner g good e.0 e.1 (there e (inl refl)) },
  all_good owner g good es (λ x among. there x (inr among)),
)

entry_there : (g : Grants) (e : Holder × Item) → IsIn e (entries g) → get g e.0 ≡ Some e.1
entry_there g e among = of_entry holder_cmp_total holder_cmp-IsAntisymmetric g e.0 e.1 among

-- the list stands for the grants
pub same_grants : (kind : GrantKind) (owner : Bytes) (g : Grants) (acl : Option (List AclItem)) → AreGood owner g → IsAcl kind owner g acl → grants_of kind owner acl ≡ g
unfolding grants_of
same_grants kind owner g None good is = sym is
same_grants kind owner g (Some items) good is =
    ap (λ (xs : List AclItem). from_entries (map (given_by owner) (giving xs))) is.1
    ∙ ap from_entries (items_back owner (entries g) (all_good owner g good (entries g) (entry_there g)))
    ∙ from_its_entries g

-- ---- granted by the owner

none_by_others : (owner : Bytes) (es : List (Holder × Item)) → list_any (is_others_item owner) (map (acl_item owner) es) ≡ false
none_by_others owner [] = refl
none_by_others owner (e ∷ es) = by (is_empty_list (rights_list e.1)) (same_text owner owner) (same_text-self owner) (none_by_others owner es)
  where
    by : (b c : Bool) → c ≡ true → list_any (is_others_item owner) (map (acl_item owner) es) ≡ false → ((not b && not c) || list_any (is_others_item owner) (map (acl_item owner) es)) ≡ false
    by b false e more = cc
    by true true e more = more
    by false true e more = more

pub by_owner : (kind : GrantKind) (owner : Bytes) (g : Grants) (acl : Option (List AclItem)) → IsAcl kind owner g acl → is_by_other (Some owner) acl ≡ false
by_owner kind owner g None is = refl
by_owner kind owner g (Some items) is = ap (list_any (is_others_item owner)) is.1 ∙ none_by_others owner (entries g)

-- ---- no item is bad

options_exact : (a b : Option Bytes) → grantee_cmp a b ≡ Equal → a ≡ b
options_exact None None e = refl
options_exact None (Some y) e = cc
options_exact (Some x) None e = cc
options_exact (Some x) (Some y) e = ap Some (bytes_cmp-IsAntisymmetric x y e)

text_apart : (owner name : Bytes) → owner ≡ name → same_text owner name ≡ false → ⊥
text_apart owner name same apart = true≢false (sym (same_text-self owner) ∙ ap (same_text owner) same ∙ apart)

-- holders with one grantee are one
one_holder : (owner : Bytes) (h k : Holder) → IsApart owner h → IsApart owner k → grantee owner h ≡ grantee owner k → h ≡ k
one_holder owner h k apart_h apart_k e = sym (holder_back owner h apart_h) ∙ ap (holder owner) e ∙ holder_back owner k apart_k

-- a grantee that none of the items before has
abbrev IsFresh : Bytes → List AclItem → Holder × Item → Type 0
IsFresh owner before e = (i : AclItem) → IsIn i before → eq_by_cmp grantee_cmp (grantee owner e.0) i.grantee ≡ false

none_has : (before : List AclItem) (who : Option Bytes) → ((i : AclItem) → IsIn i before → eq_by_cmp grantee_cmp who i.grantee ≡ false) → has_key grantee_cmp (map (λ i. i.grantee) before) who ≡ false
none_has [] who apart = refl
none_has (i ∷ before) who apart = by (eq_by_cmp grantee_cmp who i.grantee) (apart i (inl refl)) (none_has before who (λ j among. apart j (inr among)))
  where
    by : (b : Bool) → b ≡ false → has_key grantee_cmp (map (λ i. i.grantee) before) who ≡ false → (b || has_key grantee_cmp (map (λ i. i.grantee) before) who) ≡ false
    by true e more = cc
    by false e more = more

-- each holder once
abbrev AreOnce : List (Holder × Item) → Type 0
AreOnce [] = Unit {0}
AreOnce (e ∷ es) = ((f : Holder × Item) → IsIn f es → e.0 ≡ f.0 → ⊥) × AreOnce es

less_apart : (h k : Holder) → T (is_lt (holder_cmp h k)) → h ≡ k → ⊥
less_apart h k less same =
    let equal : holder_cmp h k ≡ Equal = ap (holder_cmp h) (sym same) ∙ tied_itself holder_cmp_total h in
    subst T (ap is_lt equal) less

front : (a b : Bool) → T (a && b) → T a
front true b p = tt
front false b p = p

back : (a b : Bool) → T (a && b) → T b
back true b p = p
back false b p = absurd p

above : (h : Holder) (es : List (Holder × Item)) → T (below_all holder_cmp h es) → (f : Holder × Item) → IsIn f es → T (is_lt (holder_cmp h f.0))
above h [] p f among = elim among [ ]
above h (e ∷ es) p f (inl same) = subst (λ (x : Holder × Item). T (is_lt (holder_cmp h x.0))) same (front (is_lt (holder_cmp h e.0)) (below_all holder_cmp h es) p)
above h (e ∷ es) p f (inr later) = above h es (back (is_lt (holder_cmp h e.0)) (below_all holder_cmp h es) p) f later

sorted_once : (es : List (Holder × Item)) → T (is_sorted holder_cmp es) → AreOnce es
sorted_once [] p = tt
sorted_once (e ∷ es) p = (
  λ f among same. less_apart e.0 f.0 (above e.0 es (front (below_all holder_cmp e.0 es) (is_sorted holder_cmp es) p) f among) same,
  sorted_once es (back (below_all holder_cmp e.0 es) (is_sorted holder_cmp es) p),
)

-- what holds of an item so that it isn't bad, but for those before it
pub record IsFine (kind : GrantKind) (roles : List AuthidRow) (owner : Bytes) (e : Holder × Item) : Type 0 where
  pub apart : IsApart owner e.0
  pub rights : is_within e.1.rights (rights_for kind) ≡ true
  pub gives : is_empty_list (rights_list e.1) ≡ false
  pub who : is_grantee roles (grantee owner e.0) ≡ true

module _ (kind : GrantKind) (roles : List AuthidRow) (owner : Bytes) (granted_by : is_role_name roles owner ≡ true) where
  not_bad : (before : List AclItem) (e : Holder × Item) → IsFine kind roles owner e → IsFresh owner before e → is_bad_item kind roles before (acl_item owner e) ≡ false
  not_bad before e fine fresh = rw (rights_fit kind e.1 fine.rights, fine.who, granted_by, none_has before (grantee owner e.0) fresh) refl

  fresh_next : (before : List AclItem) (e f : Holder × Item) → IsApart owner e.0 → IsApart owner f.0 → (e.0 ≡ f.0 → ⊥) → IsFresh owner before f → IsFresh owner (before ++ acl_item owner e ∷ []) f
  fresh_next [] e f apart_e apart_f other fresh i (inl same) = by (eq_by_cmp grantee_cmp (grantee owner f.0) i.grantee) refl
    where
      by : (b : Bool) → eq_by_cmp grantee_cmp (grantee owner f.0) i.grantee ≡ b → b ≡ false
      by false h = refl
      by true h =
          let ties : grantee owner f.0 ≡ i.grantee = tie options_exact (grantee owner f.0) i.grantee h in
          absurd (other (one_holder owner e.0 f.0 apart_e apart_f (ap (λ (x : AclItem). x.grantee) same ∙ sym ties)))
  fresh_next [] e f apart_e apart_f other fresh i (inr none) = elim none [ ]
  fresh_next (b ∷ before) e f apart_e apart_f other fresh i (inl same) = fresh i (inl same)
  fresh_next (b ∷ before) e f apart_e apart_f other fresh i (inr later) = fresh_next before e f apart_e apart_f other (λ j among. fresh j (inr among)) i later

  all_next : (before : List AclItem) (e : Holder × Item) (es : List (Holder × Item)) → IsApart owner e.0 → AllByRecursion (IsFine kind roles owner) es → ((f : Holder × Item) → IsIn f es → e.0 ≡ f.0 → ⊥) → AllByRecursion (IsFresh owner before) es → AllByRecursion (IsFresh owner (before ++ acl_item owner e ∷ [])) es
  all_next before e [] apart fine once fresh = tt
  all_next before e (f ∷ es) apart fine once fresh = (
    fresh_next before e f apart fine.0.apart (once f (inl refl)) fresh.0,
    all_next before e es apart fine.1 (λ x among. once x (inr among)) fresh.1,
  )

  none_bad : (before : List AclItem) (es : List (Holder × Item)) → AllByRecursion (IsFine kind roles owner) es → AllByRecursion (IsFresh owner before) es → AreOnce es → has_bad_item kind roles before (giving (map (acl_item owner) es)) ≡ false
  unfolding has_bad_item
  none_bad before [] fine fresh once = refl
  none_bad before (e ∷ es) fine fresh once =
      ap (λ (b : Bool). has_bad_item kind roles before (cond (not b) (acl_item owner e ∷ giving (map (acl_item owner) es)) (giving (map (acl_item owner) es)))) fine.0.gives
      ∙ ap (λ (b : Bool). b || has_bad_item kind roles (before ++ acl_item owner e ∷ []) (giving (map (acl_item owner) es))) (not_bad before e fine.0 fresh.0)
      ∙ none_bad (before ++ acl_item owner e ∷ []) es fine.1 (all_next before e es fine.0.apart fine.1 once.0 fresh.1) once.1

  all_fresh : (es : List (Holder × Item)) → AllByRecursion (IsFresh owner []) es
  all_fresh [] = tt
  all_fresh (e ∷ es) = (λ i among. elim among [ ], all_fresh es)

  all_fine : (g : Grants) → AreGood owner g → AreWithin g (rights_for kind) → ((name : Bytes) (item : Item) → get g (ROLE name) ≡ Some item → is_role_name roles name ≡ true) → (es : List (Holder × Item)) → ((e : Holder × Item) → IsIn e es → get g e.0 ≡ Some e.1) → AllByRecursion (IsFine kind roles owner) es
  all_fine g good within known [] there = tt
  all_fine g good within known (e ∷ es) there = (
    record {
      apart = good_at owner g good e.0 e.1 (there e (inl refl));
      rights = within e.0 e.1 (there e (inl refl));
      gives = some_rights e.1 (good.items e.0 e.1 (there e (inl refl))).gives;
      who = by e.0 e.1 (there e (inl refl));
    },
    all_fine g good within known es (λ x among. there x (inr among)),
  )
    where
      by : (h : Holder) (item : Item) → get g h ≡ Some item → is_grantee roles (grantee owner h) ≡ true
      by OWNER item is = granted_by
      by PUBLIC item is = refl
      by (ROLE name) item is = known name item is

  -- no item of the list is bad
  pub no_bad_acl : (g : Grants) (acl : Option (List AclItem)) → AreGood owner g → AreWithin g (rights_for kind) → ((name : Bytes) (item : Item) → get g (ROLE name) ≡ Some item → is_role_name roles name ≡ true) → IsAcl kind owner g acl → is_bad_acl kind roles acl ≡ false
  no_bad_acl g None good within known is = refl
  no_bad_acl g (Some items) good within known is =
      ap (λ (xs : List AclItem). has_bad_item kind roles [] (giving xs)) is.1
      ∙ none_bad [] (entries g) (all_fine g good within known (entries g) (entry_there g)) (all_fresh (entries g)) (sorted_once (entries g) (entries_sorted g))
