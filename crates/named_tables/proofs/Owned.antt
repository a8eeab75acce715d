-- Objects that have an owner and grants: the owner is a role, and the grants are in order.
use Rattle.std.proofs.Common.{◌≡◌, Option, Some, refl, ap, subst, ◌∙◌}
use Rattle.std.specs.FinMap.{get}
use Rattle.cat_model.specs.declared.holder.Holder.TheVariants.{Role as ROLE}
use Rattle.cat_model.specs.declared.holder.Item.{Item}
use Rattle.cat_model.specs.declared.object.Object.{Object}
use Rattle.cat_model.specs.declared.key.Key.{Key}
use Rattle.cat_model.specs.declared.key.Key.TheVariants as key
use Rattle.cat_model.specs.declared.value.Value.{Value}
use Rattle.cat_model.specs.declared.value.Value.TheVariants as value
use Rattle.cat_model.specs.Values.{Bytes, Named, Grants}
use Rattle.cat_sound.specs.Asked.{Asked, Meets, Passes}
use Rattle.cat_sound.specs.Asks.{object_key}
use Rattle.cat_sound.specs.Texts.{Texts}
use Rattle.cat_sound.specs.Sound.{IsMet, IsSound}
use Rattle.cat_sound.proofs.Changes.{value_met}
use Rattle.cat_sound.proofs.NewGrants.{AreHolders, met_holders}
use Rattle.named_tables.proofs.Acls.{AreGood}

module _ (texts : Texts) (named : Named) (sound : IsSound texts named) (o : Object) where
  -- what stands at the key of an owner is one
  pub owner_at : (v : Value) → get named (key.Owner o) ≡ Some v → (owner : Bytes) × (v ≡ value.Owner owner)
  owner_at (value.Owner owner) is = (owner, refl)
  owner_at v is = elim (sound.each (key.Owner o) v is).own [ ]

  pub owner_of : IsMet named (key.Owner o, Asked.there) → (owner : Bytes) × (get named (key.Owner o) ≡ Some (value.Owner owner))
  owner_of met =
      let found = value_met named (key.Owner o, Asked.there) met in
      let owner = owner_at found.0 found.1 in
      (owner.0, found.1 ∙ ap Some owner.1)

  pub grants_at : (v : Value) → get named (key.Acl o) ≡ Some v → (grants : Grants) × (v ≡ value.Grants grants)
  grants_at (value.Grants grants) is = (grants, refl)
  grants_at v is = elim (sound.each (key.Acl o) v is).own [ ]

  pub grants_there : IsMet named (key.Acl o, Asked.there) → (grants : Grants) × (get named (key.Acl o) ≡ Some (value.Grants grants))
  grants_there met =
      let found = value_met named (key.Acl o, Asked.there) met in
      let grants = grants_at found.0 found.1 in
      (grants.0, found.1 ∙ ap Some grants.1)

  -- the owner is a role
  pub owner_met : (owner : Bytes) → get named (key.Owner o) ≡ Some (value.Owner owner) → IsMet named (key.Role owner, Asked.there)
  owner_met owner is = (sound.each (key.Owner o) (value.Owner owner) is).others.0

  pub object_met : (owner : Bytes) → get named (key.Owner o) ≡ Some (value.Owner owner) → IsMet named (object_key o, Asked.ownable)
  object_met owner is = (sound.each (key.Owner o) (value.Owner owner) is).others.1.0

  module _ (grants : Grants) (is : get named (key.Acl o) ≡ Some (value.Grants grants)) where
    holders : AreHolders named o grants
    holders = met_holders named o grants (sound.each (key.Acl o) (value.Grants grants) is).others.1.1

    pub takes_them : IsMet named (object_key o, Asked.takes grants)
    takes_them = (sound.each (key.Acl o) (value.Grants grants) is).others.0

    pub owner_there : IsMet named (key.Owner o, Asked.there)
    owner_there = (sound.each (key.Acl o) (value.Grants grants) is).others.1.0

    -- a role that has rights is there
    pub holder_met : (name : Bytes) (item : Item) → get grants (ROLE name) ≡ Some item → IsMet named (key.Role name, Asked.there)
    holder_met name item has = (holders name item has).role

    -- they are in order
    pub grants_good : (owner : Bytes) → get named (key.Owner o) ≡ Some (value.Owner owner) → AreGood owner grants
    grants_good owner owned = record {
      items = (sound.each (key.Acl o) (value.Grants grants) is).own.1;
      apart = λ name item has. subst (λ (x : Option Value). Passes x (Asked.other_owner name)) owned (holders name item has).other;
    }

-- what meets an ask at a key with this value
pub met_by : (named : Named) (ask : Key × Asked) (v : Value) → get named ask.0 ≡ Some v → IsMet named ask → Meets ask.1 v
met_by named ask v is met = subst (λ (x : Option Value). Passes x ask.1) is met
