-- Keys of tables in a set, found by a table and the set of the key's columns.
use Rattle.std.specs.Prelude.{◌≡◌, ℕ, Bool, ◌&&◌, List}
use Rattle.std.specs.BTreeSet.{BTreeSet, IsOrdered, contains}
use Rattle.std.specs.Cmp.Lexicographic.{slice_cmp}
use Rattle.std.specs.List.{list_any}
use Rattle.std.specs.declared.cmp.Ordering.{Ordering}
use Rattle.std.specs.Ordering.{nat_cmp, ordering_then}
use Rattle.cat_model.specs.Tables.{same_set}
use Rattle.cat_model.specs.Values.{Bytes, bytes_cmp}
use Rattle.cat_names.specs.Indexed.{AreKeys}
use Rattle.cat_names.specs.Lookups.{same_oid}

-- the set of these names
abbrev pub AreNames : BTreeSet Bytes → List Bytes → Type 0
AreNames set names = IsOrdered bytes_cmp set × AreKeys bytes_cmp set names

-- the order of keys, each a table and a set of names
abbrev pub key_cmp : ℕ × BTreeSet Bytes → ℕ × BTreeSet Bytes → Ordering
key_cmp a b = ordering_then (nat_cmp a.0 b.0) (slice_cmp bytes_cmp a.1.keys b.1.keys)

-- whether one of these keys is on this table and this set of columns
abbrev pub is_key_on : List (ℕ × List Bytes) → ℕ → List Bytes → Bool
is_key_on keys table names = list_any (λ k. same_oid table k.0 && same_set names k.1) keys

-- the set of these keys
abbrev pub AreKeysOn : BTreeSet (ℕ × BTreeSet Bytes) → List (ℕ × List Bytes) → Type 0
AreKeysOn set keys = (table : ℕ) (names : List Bytes) (columns : BTreeSet Bytes) → AreNames columns names → contains key_cmp set (table, columns) ≡ is_key_on keys table names
