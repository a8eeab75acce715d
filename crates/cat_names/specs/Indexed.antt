-- What stands beside lists, so that a key is found without going through them.
use Rattle.std.specs.Prelude.{◌≡◌, ℕ, List, unwrap_or}
use Rattle.std.specs.declared.cmp.Ordering.{Ordering}
use Rattle.std.specs.Ordering.{nat_cmp}
use Rattle.std.specs.BTreeMap.{BTreeMap, get}
use Rattle.std.specs.BTreeSet.{BTreeSet, contains}
use Rattle.cat_rows.specs.declared.roles.AuthidRow.{AuthidRow}
use Rattle.cat_model.specs.Values.{Bytes, bytes_cmp}
use Rattle.cat_names.specs.Lookups.{place_of, has_key, count_of, role_oids, role_names}

-- the map has the place of each oid where it stands first
abbrev pub IsIndexed : List ℕ → BTreeMap ℕ ℕ → Type 0
IsIndexed oids places = (oid : ℕ) → get nat_cmp places oid ≡ place_of oid oids

-- the map has how often each oid occurs
abbrev pub AreCounts : List ℕ → BTreeMap ℕ ℕ → Type 0
AreCounts oids counts = (oid : ℕ) → unwrap_or (get nat_cmp counts oid) 0 ≡ count_of oids oid

-- the set of these keys
abbrev pub AreKeys : {K : Type 0} → (K → K → Ordering) → BTreeSet K → List K → Type 0
AreKeys {K} cmp set keys = (key : K) → contains cmp set key ≡ has_key cmp keys key

-- what a list of roles is found by: their oids, and the set of their names
pub record AreRoles (roles : List AuthidRow) (oids : List ℕ) (names : BTreeSet Bytes) : Type 0 where
  pub oids_of : oids ≡ role_oids roles
  pub names_of : AreKeys bytes_cmp names (role_names roles)
