-- Marks that may meet are listed under one key: that of their table for constraints, indexes and their classes, that of a
-- role and its member for memberships, else the key itself.
use Rattle.std.specs.Prelude.{◌≡◌, ℕ, ◌+◌, Bool, true, false, ◌==◌, List, [], ◌∷◌, Some, unwrap_or}
use Rattle.std.specs.Global.{Vec}
use Rattle.std.specs.Ordering.{nat_cmp}
use Rattle.std.specs.BTreeMap.{BTreeMap, get}
use Rattle.std.specs.BTreeSet.{BTreeSet, contains}
use Rattle.std.specs.List.{list_any, slice_get, AllByRecursion}
use Rattle.std.specs.Option.{option_map_or}
use Rattle.cat_model.specs.declared.class.Mark.{Mark}
use Rattle.cat_model.specs.declared.class.Mark.TheVariants as mark
use Rattle.cat_model.specs.declared.key.Key.{Key}
use Rattle.cat_model.specs.declared.key.Key.TheVariants as key
use Rattle.cat_model.specs.Keys.{key_cmp}
use Rattle.eng_map.specs.Groups.{group_of, class_group}
use Rattle.restore_plan.specs.declared.planned.Planned.{Planned}
use Rattle.restore_plan.specs.Order.{before_at}

abbrev pub bucket : Mark → Key
bucket (mark.Key k) = unwrap_or (group_of k) k
bucket (mark.NewConstraint table name kind names) = key.Rel table
bucket (mark.NewIndex table name on) = key.Rel table
bucket (mark.Class c) = class_group c

-- ---- places under keys, and under dump ids

abbrev pub has : List ℕ → ℕ → Bool
has places i = list_any (λ p. p == i) places

abbrev pub Index : Type 0
Index = BTreeMap Key (Vec ℕ)

abbrev pub is_listed : Index → Key → ℕ → Bool
is_listed index k i = option_map_or (λ places. has places.items i) (get key_cmp index k) false

abbrev pub Ids : Type 0
Ids = BTreeMap ℕ (Vec ℕ)

abbrev pub has_id : Ids → ℕ → ℕ → Bool
has_id ids id i = option_map_or (λ places. has places.items i) (get nat_cmp ids id) false

-- the i-th entry is listed under its dump id and under what it reads and writes
pub record IsAt (ids : Ids) (writers readers : Index) (ps : List Planned) (i : ℕ) : Type 0 where
  pub id : (p : Planned) → slice_get ps i ≡ Some p → has_id ids p.id i ≡ true
  pub writes : (p : Planned) → slice_get ps i ≡ Some p → AllByRecursion (λ m. is_listed writers (bucket m) i ≡ true) p.footprint.writes
  pub reads : (p : Planned) → slice_get ps i ≡ Some p → AllByRecursion (λ m. is_listed readers (bucket m) i ≡ true) p.footprint.reads

-- ---- what was found

-- no other places were found than those of entries that have to end before the j-th starts
abbrev pub AreBefore : List Planned → ℕ → BTreeSet ℕ → Type 0
AreBefore ps j found = (i : ℕ) → contains nat_cmp found i ≡ true → before_at ps i j ≡ true

-- all places of such entries were found that are among these
abbrev pub Covers : List Planned → ℕ → BTreeSet ℕ → (ℕ → Bool) → Type 0
Covers ps j found among = (i : ℕ) → among i ≡ true → before_at ps i j ≡ true → contains nat_cmp found i ≡ true

-- sets of places, one for each entry from the j-th on: those of the entries that have to end before it starts
abbrev pub AreWaits : List Planned → ℕ → List (BTreeSet ℕ) → Type 0
AreWaits ps j [] = Unit {0}
AreWaits ps j (found ∷ more) = ((i : ℕ) → contains nat_cmp found i ≡ before_at ps i j) × AreWaits ps (j + 1) more
