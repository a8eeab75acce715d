-- What is kept of the entries that stand earlier in a list: which dump ids they have, which of them can be locked, and
-- which holds the rows of what.
use Rattle.std.specs.Prelude.{◌≡◌, ℕ, Bool, ◌&&◌, List, [], ◌∷◌, map, Option, Some, None, unwrap_or, if◌then◌else◌}
use Rattle.std.specs.List.{filter}
use Rattle.std.specs.Ordering.{nat_cmp}
use Rattle.std.specs.BTreeMap.{BTreeMap, get}
use Rattle.std.specs.BTreeSet.{BTreeSet, contains}
use Rattle.restore_plan.specs.declared.entry.Entry.{Entry}
use Rattle.restore_plan.specs.Entries.{is_among, has_rows_of, can_be_locked, takes_locks}

-- the first entry that holds the rows of this one
abbrev pub rows_of : List Entry → ℕ → Option ℕ
rows_of [] id = None
rows_of (e ∷ earlier) id = if has_rows_of id e then Some e.id else rows_of earlier id

-- the first of two that is there
abbrev pub first_of : Option ℕ → Option ℕ → Option ℕ
first_of (Some id) later = Some id
first_of None later = later

-- sets and a map that say of each dump id what these entries say of it
pub record AreEarlier (ids lockable : BTreeSet ℕ) (rows : BTreeMap ℕ ℕ) (earlier : List Entry) : Type 0 where
  pub known : (id : ℕ) → contains nat_cmp ids id ≡ is_among id (map (λ x. x.id) earlier)
  pub locked : (id : ℕ) → contains nat_cmp lockable id ≡ can_be_locked earlier id
  pub replaced : (id : ℕ) → get nat_cmp rows id ≡ rows_of earlier id

-- ---- dependencies and locks, by what is kept

abbrev pub replaced_by : BTreeMap ℕ ℕ → ℕ → ℕ
replaced_by rows id = unwrap_or (get nat_cmp rows id) id

abbrev pub waits_by : BTreeMap ℕ ℕ → Bool → List ℕ → List ℕ
waits_by rows post_data listed = if post_data then map (replaced_by rows) listed else listed

abbrev pub among_by : BTreeSet ℕ → List ℕ → List ℕ
among_by ids waits = filter (contains nat_cmp ids) waits

abbrev pub locks_by : BTreeSet ℕ → Entry → List ℕ → List ℕ
locks_by lockable e deps = if e.post_data && takes_locks e.kind then filter (contains nat_cmp lockable) deps else []
