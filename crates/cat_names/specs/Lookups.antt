-- How rows are found by their oids and names.
use Rattle.std.specs.Prelude.{ℕ, suc, Bool, List, [], ◌∷◌, map, length, Option, Some, None, option_map, if◌then◌else◌}
use Rattle.std.specs.List.{list_any, filter, slice_get}
use Rattle.std.specs.declared.cmp.Ordering.{Ordering}
use Rattle.std.specs.Ordering.{nat_cmp, eq_by_cmp}
use Rattle.cat_model.specs.Values.{Bytes, bytes_cmp}
use Rattle.cat_rows.specs.declared.roles.AuthidRow.{AuthidRow}
use Rattle.cat_rows.specs.declared.schemas.NamespaceRow.{NamespaceRow}

abbrev pub same_oid : ℕ → ℕ → Bool
same_oid = eq_by_cmp nat_cmp

-- an own oid of 0 stands for no object
abbrev pub is_no_oid : ℕ → Bool
is_no_oid oid = same_oid oid 0

abbrev pub same_name : Bytes → Bytes → Bool
same_name = eq_by_cmp bytes_cmp

-- whether one of these keys is the given one
abbrev pub has_key : {K : Type 0} → (K → K → Ordering) → List K → K → Bool
has_key cmp keys key = list_any (eq_by_cmp cmp key) keys

abbrev pub has_oid : List ℕ → ℕ → Bool
has_oid = has_key nat_cmp

abbrev pub has_name : List Bytes → Bytes → Bool
has_name = has_key bytes_cmp

-- how many of these oids are the given one
abbrev pub count_of : List ℕ → ℕ → ℕ
count_of oids oid = length (filter (same_oid oid) oids)

abbrev pub role_oids : List AuthidRow → List ℕ
role_oids roles = map (λ r. r.oid) roles

abbrev pub role_names : List AuthidRow → List Bytes
role_names roles = map (λ r. r.rolname) roles

abbrev pub schema_oids : List NamespaceRow → List ℕ
schema_oids schemas = map (λ s. s.oid) schemas

-- the role to which a new cluster's objects belong
abbrev pub boot_oid : ℕ
boot_oid = 10

-- whether a role has this oid, or this name
abbrev pub is_role : List AuthidRow → ℕ → Bool
is_role roles oid = has_oid (role_oids roles) oid

abbrev pub is_role_name : List AuthidRow → Bytes → Bool
is_role_name roles name = has_name (role_names roles) name

-- the name of the first role of an oid
unfoldable pub role_name : List AuthidRow → ℕ → Option Bytes
role_name [] oid = None
role_name (role ∷ roles) oid = if same_oid oid role.oid then Some role.rolname else role_name roles oid

-- the place of the first of these oids that is the given one, counted from 0
unfoldable pub place_of : ℕ → List ℕ → Option ℕ
place_of oid [] = None
place_of oid (o ∷ os) = if same_oid oid o then Some 0 else option_map suc (place_of oid os)

-- the name of the role at a place
abbrev pub name_at : List AuthidRow → ℕ → Option Bytes
name_at roles place = option_map (λ r. r.rolname) (slice_get roles place)
