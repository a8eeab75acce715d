-- The owner and the grants of a new object are in order.
use Rattle.std.proofs.Common.{◌≡◌, true, List, Some, None}
use Rattle.std.specs.FinMap.{get}
use Rattle.std.specs.List.{AllByRecursion}
use Rattle.cat_model.specs.declared.grant.Rights.{Rights}
use Rattle.cat_model.specs.declared.object.Object.{Object}
use Rattle.cat_model.specs.declared.key.Key.TheVariants as key
use Rattle.cat_model.specs.declared.value.Value.TheVariants as value
use Rattle.cat_model.specs.declared.value.Value.{Value}
use Rattle.cat_model.specs.Values.{Bytes, Named, Grants}
use Rattle.cat_model.specs.ObjectEffects.{made}
use Rattle.cat_model.specs.Trees.{Change, changed}
use Rattle.cat_sound.specs.Texts.{Texts}
use Rattle.cat_sound.specs.Rights.{rights_of}
use Rattle.cat_sound.specs.Asked.{Asked, Meets, HasRights, is_ownable}
use Rattle.cat_sound.specs.Asks.{object_key}
use Rattle.cat_sound.specs.Itself.{has_owner, has_grants}
use Rattle.cat_sound.specs.Sound.{IsMet}
use Rattle.cat_sound.proofs.Keeping.{IsGood, new_answers}
use Rattle.cat_sound.proofs.NewGrants.{AreFirst, AreHolders, holders_met}

-- an object of this value, which has these grants at first
pub record IsNewObject (named later : Named) (o : Object) (boot : Bytes) (grants : Grants) (rights : Rights) (v : Value) : Type 0 where
  -- what it is
  pub owned : has_owner o ≡ true
  pub granted : has_grants o ≡ true
  pub ownable : is_ownable v ≡ true
  pub takes : rights_of v ≡ Some rights
  pub first : AreFirst grants rights
  -- its owner and its grants weren't there
  pub no_owner : get named (key.Owner o) ≡ None
  pub no_grants : get named (key.Acl o) ≡ None
  -- it is there now, with its owner, who is a role
  pub there : get later (object_key o) ≡ Some v
  pub with_owner : IsMet later (key.Owner o, Asked.there)
  pub role : IsMet later (key.Role boot, Asked.there)

module _ (texts : Texts) (named : Named) (cs : List Change) (o : Object) (boot : Bytes) (grants : Grants) (rights : Rights) (v : Value) (made_so : IsNewObject named (changed cs named) o boot grants rights v) where
  meets_here : (a : Asked) → Meets a v → IsMet (changed cs named) (object_key o, a)
  meets_here a met = rw made_so.there met

  owner_good : IsGood texts named cs (key.Owner o, Some (value.Owner boot))
  owner_good = record {
    new = record { own = made_so.owned; others = (made_so.role, (meets_here Asked.ownable made_so.ownable, tt)) };
    answers = new_answers named cs (key.Owner o, Some (value.Owner boot)) made_so.no_owner;
  }

  takes_these : HasRights grants (rights_of v)
  takes_these = rw made_so.takes made_so.first.within

  no_holders : AreHolders (changed cs named) o grants
  no_holders name item is = let none = made_so.first.none name in cc

  grants_good : IsGood texts named cs (key.Acl o, Some (value.Grants grants))
  grants_good = record {
    new = record {
      own = (made_so.granted, made_so.first.items);
      others = (meets_here (Asked.takes grants) takes_these, (made_so.with_owner, holders_met (changed cs named) o grants no_holders));
    };
    answers = new_answers named cs (key.Acl o, Some (value.Grants grants)) made_so.no_grants;
  }

  pub made_good : AllByRecursion (IsGood texts named cs) (made o boot grants)
  made_good = (owner_good, (grants_good, tt))
