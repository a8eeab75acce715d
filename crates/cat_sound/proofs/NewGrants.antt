-- Grants: the items of those that a new object has, and what grants ask.
use Rattle.std.proofs.Common.{◌≡◌, true, [], ◌∷◌, Some, None, refl, sym, subst}
use Rattle.std.specs.FinMap.{get, entries, get-from_entries}
use Rattle.std.specs.List.{AllByRecursion, flat_map}
use Rattle.cat_model.specs.declared.grant.Rights.{Rights}
use Rattle.cat_model.specs.declared.object.Object.{Object}
use Rattle.cat_model.specs.declared.key.Key.TheVariants as key
use Rattle.cat_model.specs.HolderLaws.{holder_cmp_total, holder_cmp-IsAntisymmetric}
use Rattle.cat_model.specs.declared.holder.Holder.{Holder}
use Rattle.cat_model.specs.declared.holder.Item.{Item}
use Rattle.cat_model.specs.declared.holder.Holder.TheVariants.{Owner as OWNER, Public as PUBLIC, Role as ROLE}
use Rattle.cat_model.specs.Values.{Bytes, Named, Grants}
use Rattle.cat_model.specs.Grants.{owner_only, type_grants, without_option, has_rights, type_rights}
use Rattle.cat_sound.specs.Rights.{is_within, IsItem, AreItems, AreWithin}
use Rattle.cat_sound.specs.Asked.{Asked}
use Rattle.cat_sound.specs.Asks.{holder_asks}
use Rattle.cat_sound.specs.Sound.{IsMet}
use Rattle.cat_sound.proofs.Lists.{of_member, of_each, all-flat, flat-all}
use Rattle.cat_sound.proofs.Maps.{entry_of, of_entry}

-- ---- what holders ask

-- a role with rights is there, and isn't the owner
pub record IsHolder (named : Named) (o : Object) (name : Bytes) : Type 0 where
  pub role : IsMet named (key.Role name, Asked.there)
  pub other : IsMet named (key.Owner o, Asked.other_owner name)

abbrev pub AreHolders : Named → Object → Grants → Type 0
AreHolders named o grants = (name : Bytes) (item : Item) → get grants (ROLE name) ≡ Some item → IsHolder named o name

pub holders_met : (named : Named) (o : Object) (grants : Grants) → AreHolders named o grants → AllByRecursion (IsMet named) (flat_map (λ e. holder_asks o e.0) (entries grants))
holders_met named o grants holders =
    all-flat (IsMet named) (λ (e : Holder × Item). holder_asks o e.0) (entries grants)
    (of_each (λ (e : Holder × Item). AllByRecursion (IsMet named) (holder_asks o e.0)) (entries grants) (λ e among. by e.0 e.1 (of_entry holder_cmp_total holder_cmp-IsAntisymmetric grants e.0 e.1 among)))
  where
    by : (h : Holder) (item : Item) → get grants h ≡ Some item → AllByRecursion (IsMet named) (holder_asks o h)
    by OWNER item is = tt
    by PUBLIC item is = tt
    by (ROLE name) item is = let at = holders name item is in (at.role, (at.other, tt))

pub met_holders : (named : Named) (o : Object) (grants : Grants) → AllByRecursion (IsMet named) (flat_map (λ e. holder_asks o e.0) (entries grants)) → AreHolders named o grants
met_holders named o grants all name item is =
    let each = flat-all (IsMet named) (λ (e : Holder × Item). holder_asks o e.0) (entries grants) all in
    let at = of_member (λ (e : Holder × Item). AllByRecursion (IsMet named) (holder_asks o e.0)) (entries grants) each (ROLE name, item) (entry_of holder_cmp_total holder_cmp-IsAntisymmetric grants (ROLE name) item is) in
    record { role = at.0; other = at.1.0 }

-- ---- what a new object has

-- grants in which no role has an item, each item is in order, and all rights are among these
pub record AreFirst (grants : Grants) (rights : Rights) : Type 0 where
  pub items : AreItems grants
  pub within : AreWithin grants rights
  pub none : (name : Bytes) → get grants (ROLE name) ≡ None

module _ (rights : Rights) (gives : has_rights rights ≡ true) (same : is_within rights rights ≡ true) where
  item : IsItem (without_option rights)
  item = record { gives = gives; options = refl }

  owner_at : (h : Holder) (i : Item) → get (owner_only rights) h ≡ Some i → i ≡ without_option rights
  owner_at OWNER i is =
      let at = get-from_entries holder_cmp_total ((OWNER, without_option rights) ∷ []) OWNER in
      cc
  owner_at PUBLIC i is =
      let at = get-from_entries holder_cmp_total ((OWNER, without_option rights) ∷ []) PUBLIC in
      cc
  owner_at (ROLE name) i is =
      let at = get-from_entries holder_cmp_total ((OWNER, without_option rights) ∷ []) (ROLE name) in
      cc

  pub owner_first : AreFirst (owner_only rights) rights
  owner_first = record {
    items = λ h i is. subst IsItem (sym (owner_at h i is)) item;
    within = λ h i is. subst (λ (j : Item). is_within j.rights rights ≡ true) (sym (owner_at h i is)) same;
    none = λ name. get-from_entries holder_cmp_total ((OWNER, without_option rights) ∷ []) (ROLE name);
  }

type_at : (h : Holder) (i : Item) → get type_grants h ≡ Some i → i ≡ without_option type_rights
type_at OWNER i is =
    let at = get-from_entries holder_cmp_total ((OWNER, without_option type_rights) ∷ (PUBLIC, without_option type_rights) ∷ []) OWNER in
    cc
type_at PUBLIC i is =
    let at = get-from_entries holder_cmp_total ((OWNER, without_option type_rights) ∷ (PUBLIC, without_option type_rights) ∷ []) PUBLIC in
    cc
type_at (ROLE name) i is =
    let at = get-from_entries holder_cmp_total ((OWNER, without_option type_rights) ∷ (PUBLIC, without_option type_rights) ∷ []) (ROLE name) in
    cc

pub type_first : AreFirst type_grants type_rights
type_first = record {
  items = λ h i is. subst IsItem (sym (type_at h i is)) (record { gives = refl; options = refl });
  within = λ h i is. subst (λ (j : Item). is_within j.rights type_rights ≡ true) (sym (type_at h i is)) refl;
  none = λ name. get-from_entries holder_cmp_total ((OWNER, without_option type_rights) ∷ (PUBLIC, without_option type_rights) ∷ []) (ROLE name);
}
