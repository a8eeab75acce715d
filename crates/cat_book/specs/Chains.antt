-- The chain of a domain's bases: the type that it is over, the type that this one is over, and so on.
use Rattle.std.specs.Prelude.{◌≡◌, ℕ, zero, suc, Bool, true, false, not, ◌&&◌, ◌==◌, List, length, map, Option, Some, None, option_map, option_and_then, if◌then◌else◌}
use Rattle.std.specs.List.{find, slice_get}
use Rattle.cat_rows.specs.declared.types.TypeRow.{TypeRow}
use Rattle.cat_names.specs.Lookups.{same_oid, place_of, is_no_oid}

-- the letter of a domain among the types
abbrev pub is_domain_letter : ℕ → Bool
is_domain_letter letter = letter == 100

-- the first type of an oid
abbrev pub type_of : List TypeRow → ℕ → Option TypeRow
type_of types oid = find (λ t. same_oid oid t.oid) types

-- a domain over a type of pg_type
abbrev pub has_base : TypeRow → Bool
has_base row = is_domain_letter row.typtype && not (is_no_oid row.typbasetype)

-- the row of the type that a domain is over; other types have none, nor has a domain over 0 or over a type that isn't there
abbrev pub base_of : List TypeRow → TypeRow → Option TypeRow
base_of types row = if has_base row then type_of types row.typbasetype else None

abbrev pub ends_behind : (TypeRow → Bool) → Option TypeRow → Bool
ends_behind later None = true
ends_behind later (Some base) = later base

-- whether the chain of bases that begins with a type is of no more than so many types
unfoldable pub ends_within : ℕ → List TypeRow → TypeRow → Bool
ends_within zero types row = false
ends_within (suc n) types row = ends_behind (ends_within n types) (base_of types row)

-- Whether the chain of a type's bases ends. One that ends has no type twice, so behind the type itself come no more types
-- than there are.
abbrev pub chain_ends : List TypeRow → TypeRow → Bool
chain_ends types row = ends_within (suc (length types)) types row

-- ---- by places

-- the place, among the types' oids, of the type that a domain is over
abbrev pub base_place : List ℕ → TypeRow → Option ℕ
base_place oids row = if has_base row then place_of row.typbasetype oids else None

-- where the steps lead from a place; nowhere from one that there isn't
abbrev pub step : List (Option ℕ) → ℕ → Option ℕ
step steps place = option_and_then (λ s. s) (slice_get steps place)

-- twice as many steps at once
abbrev pub doubled : List (Option ℕ) → List (Option ℕ)
doubled steps = map (option_and_then (step steps)) steps

-- what is known of each place: whether the chain of the type there ends
abbrev pub AreEnds : List TypeRow → List Bool → Type 0
AreEnds types ends = (place : ℕ) → slice_get ends place ≡ option_map (chain_ends types) (slice_get types place)
