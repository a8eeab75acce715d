-- Roles by their oids and names.
use Rattle.std.proofs.Common.{◌≡◌, ℕ, Bool, true, false, cond, ◌||◌, List, [], ◌∷◌, Option, Some, None, refl, sym, ap, inl, inr}
use Rattle.std.specs.FinMap.{nat_cmp-IsAntisymmetric, slice_cmp-IsAntisymmetric}
use Rattle.std.specs.Ordering.{nat_cmp}
use Rattle.cat_rows.specs.declared.roles.AuthidRow.{AuthidRow}
use Rattle.cat_model.specs.Values.{Bytes, bytes_cmp}
use Rattle.cat_names.specs.Lookups.{same_oid, role_name, is_role, is_role_name}
use Rattle.cat_sound.proofs.Lists.{IsIn}
use Rattle.cat_sound.proofs.Maps.{equal_of}
use Rattle.sound_rows.specs.Rows.{IsAmong}
use Rattle.sound_rows.proofs.Among.{has_found, place_in}

-- oids that are the same are equal
pub same_oid-equal : (a b : ℕ) → same_oid a b ≡ true → a ≡ b
same_oid-equal a b e = equal_of nat_cmp-IsAntisymmetric a b (nat_cmp a b) refl e

-- a name that an oid leads to is that of a role
named_in : (roles : List AuthidRow) (oid : ℕ) (name : Bytes) → role_name roles oid ≡ Some name → (r : AuthidRow) × IsIn r roles × (r.rolname ≡ name) × (r.oid ≡ oid)
unfolding role_name
named_in [] oid name e = absurd cc
named_in (r ∷ roles) oid name e = by (named_in roles oid name) (same_oid oid r.oid) refl e
  where
    by : (role_name roles oid ≡ Some name → (s : AuthidRow) × IsIn s roles × (s.rolname ≡ name) × (s.oid ≡ oid)) → (b : Bool) → same_oid oid r.oid ≡ b → cond {A = Option Bytes} b (Some r.rolname) (role_name roles oid) ≡ Some name → (s : AuthidRow) × IsIn s (r ∷ roles) × (s.rolname ≡ name) × (s.oid ≡ oid)
    by later true is h = (r, inl refl, (let same : r.rolname ≡ name = cc in same), sym (same_oid-equal oid r.oid is))
    by later false is h = let found = later h in (found.0, inr found.1, found.2, found.3)

pub named_role : (roles : List AuthidRow) (oid : ℕ) (name : Bytes) → role_name roles oid ≡ Some name → (r : AuthidRow) × IsAmong r roles × (r.rolname ≡ name) × (r.oid ≡ oid)
named_role roles oid name e = let named = named_in roles oid name e in (named.0, place_in roles named.0 named.1, named.2, named.3)

-- a role's oid leads to a name
pub role_is_named : (roles : List AuthidRow) (oid : ℕ) → is_role roles oid ≡ true → (name : Bytes) × (role_name roles oid ≡ Some name)
unfolding role_name
role_is_named [] oid e = absurd cc
role_is_named (r ∷ roles) oid e = by (role_is_named roles oid) (same_oid oid r.oid) e
  where
    by : (is_role roles oid ≡ true → (name : Bytes) × (role_name roles oid ≡ Some name)) → (b : Bool) → (b || is_role roles oid) ≡ true → (name : Bytes) × (cond {A = Option Bytes} b (Some r.rolname) (role_name roles oid) ≡ Some name)
    by later true h = (r.rolname, refl)
    by later false h = later h

-- a role's name is that of a role
pub role_of_name : (roles : List AuthidRow) (name : Bytes) → is_role_name roles name ≡ true → (r : AuthidRow) × IsAmong r roles × (r.rolname ≡ name)
role_of_name roles name e = has_found bytes_cmp (slice_cmp-IsAntisymmetric nat_cmp-IsAntisymmetric) (λ r. r.rolname) roles name e
