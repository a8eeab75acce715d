-- Keys of an oid and a number, in groups by their oids.
use Rattle.std.specs.Prelude.{ℕ, ℤ, Bool, ◌&&◌, List, map, Option}
use Rattle.std.specs.List.{filter, enumerate_from, position}
use Rattle.std.specs.Ordering.{nat_cmp, int_eq, eq_by_cmp}
use Rattle.oid_groups.specs.Orders.{by_number}

-- an oid, and a number among those of the same oid
abbrev pub Key : Type 0
Key = ℕ × ℤ

-- the keys with their places, counted from 0
abbrev pub numbered_keys : List Key → List (ℕ × Key)
numbered_keys keys = enumerate_from 0 keys

abbrev pub same_oid : ℕ → ℕ → Bool
same_oid = eq_by_cmp nat_cmp

-- the places of the keys of an oid, by rising numbers
abbrev pub group_of : List Key → ℕ → List ℕ
group_of keys oid = map (λ e. e.0) (by_number (λ e. e.1.1) (filter (λ e. same_oid oid e.1.0) (numbered_keys keys)))

-- the place of the first key of this oid and this number
abbrev pub first_place : List Key → ℕ → ℤ → Option ℕ
first_place keys oid number = position (λ key. same_oid oid key.0 && int_eq number key.1) keys
