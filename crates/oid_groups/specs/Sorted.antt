-- Keys in order, so that those of an oid are found without going through them.
use Rattle.std.specs.Prelude.{◌≡◌, ℕ, true, false, List, map, nat_lt, nat_le}
use Rattle.std.specs.declared.cmp.Ordering.{Ordering}
use Rattle.std.specs.Ordering.{nat_cmp, int_cmp, ordering_then, is_lt}
use Rattle.std.specs.List.Sorted.{IsSortedByKey, IsStableByKey, IsPartitionPoint}
use Rattle.oid_groups.specs.Groups.{Key, numbered_keys}

-- by oids, and by numbers where the oids are one
abbrev pub key_cmp : Key → Key → Ordering
key_cmp a b = ordering_then (nat_cmp a.0 b.0) (int_cmp a.1 b.1)

-- the keys with their places, in order; equal keys stand in the order of their places
pub record IsInOrder (keys : List Key) (entries : List (ℕ × Key)) : Type 0 where
  pub rising : IsSortedByKey (λ e. e.1) key_cmp entries
  pub stable : IsStableByKey (λ e. e.1) key_cmp (numbered_keys keys) entries

-- the keys in order, and beside each its place among the keys as they were given
pub record AreSorted (keys sorted : List Key) (places : List ℕ) : Type 0 where
  pub entries : List (ℕ × Key)
  pub in_order : IsInOrder keys entries
  pub keys_of : sorted ≡ map (λ e. e.1) entries
  pub places_of : places ≡ map (λ e. e.0) entries

-- where the keys of lower oids end, those of oids up to one, and those below a key
abbrev pub IsOidStart : List Key → ℕ → ℕ → Type 0
IsOidStart sorted oid at = IsPartitionPoint (λ k. nat_lt k.0 oid ≡ true) (λ k. nat_lt k.0 oid ≡ false) sorted at

abbrev pub IsOidEnd : List Key → ℕ → ℕ → Type 0
IsOidEnd sorted oid at = IsPartitionPoint (λ k. nat_le k.0 oid ≡ true) (λ k. nat_le k.0 oid ≡ false) sorted at

abbrev pub IsKeyStart : List Key → Key → ℕ → Type 0
IsKeyStart sorted key at = IsPartitionPoint (λ k. is_lt (key_cmp k key) ≡ true) (λ k. is_lt (key_cmp k key) ≡ false) sorted at
