-- Rows of what has an owner and grants, where these are looked up.
use Rattle.std.proofs.Common.{◌≡◌, Bool, true, false, cond, Option, Some, None, option_map, sym, subst}
use Rattle.cat_model.specs.declared.value.Value.{Value}
use Rattle.cat_model.specs.declared.value.Value.TheVariants as value
use Rattle.cat_model.specs.Values.{Bytes, Grants}
use Rattle.map_export.specs.Making.{IsRowOf}
use Rattle.map_export.specs.Things.{both, owner_in, grants_in}

-- what an owner and grants were read of
pub owner_given : (v : Option Value) (name : Bytes) → Some name ≡ owner_in v → v ≡ Some (value.Owner name)
owner_given (Some (value.Owner owner)) name is = by owner name is
  where
    by : (a b : Bytes) → Some b ≡ Some a → Some (value.Owner a) ≡ Some (value.Owner b)
    by a b same = cc
owner_given v name is = cc

pub grants_given : (v : Option Value) (grants : Grants) → Some grants ≡ grants_in v → v ≡ Some (value.Grants grants)
grants_given (Some (value.Grants held)) grants is = by held grants is
  where
    by : (a b : Grants) → Some b ≡ Some a → Some (value.Grants a) ≡ Some (value.Grants b)
    by a b same = cc
grants_given v grants is = cc

module _ {T R : Type 0} (Says : T → R → Type 0) (f : Bytes → Grants → T) (o : Option Bytes) (p : Option Grants) where
  -- a row of what has this owner and these grants, or none
  pub both_said : (b : Bool) (owner : Bytes) (grants : Grants) (row : Option R) → Some owner ≡ o → Some grants ≡ p → IsRowOf Says (cond b (Some (f owner grants)) None) row → IsRowOf Says (cond b (both f o p) None) row
  both_said b owner grants row is_o is_p said =
      subst (λ (q : Option Bytes). IsRowOf Says (cond b (both f q p) None) row) is_o
      (subst (λ (q : Option Grants). IsRowOf Says (cond b (both f (Some owner) q) None) row) is_p said)

  -- none, where there is no owner, or there are no grants
  pub no_owner : (b : Bool) → None ≡ o → IsRowOf Says (cond b (both f o p) None) None
  no_owner b is = subst (λ (q : Option Bytes). IsRowOf Says (cond b (both f q p) None) None) is (by b)
    where
      by : (b : Bool) → IsRowOf Says (cond b (both f None p) None) None
      by true = tt
      by false = tt

  pub no_grants : (b : Bool) → None ≡ p → IsRowOf Says (cond b (both f o p) None) None
  no_grants b is = subst (λ (q : Option Grants). IsRowOf Says (cond b (both f o q) None) None) is (by b o)
    where
      by : (b : Bool) (o : Option Bytes) → IsRowOf Says (cond b (both f o None) None) None
      by true (Some owner) = tt
      by true None = tt
      by false o = tt
