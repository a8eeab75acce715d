-- Oids of objects: what has which, and that those of one table's rows are apart.
use Rattle.std.specs.Prelude.{◌≡◌, ◌==◌, ℕ, Bool, true, false, Option, Some, None, ◌&&◌, not, is_some, refl, if◌then◌else◌}
use Rattle.std.specs.Coded.{Coded, code_by, coded×, coded_ℕ}
use Rattle.std.specs.FinMap as map
use Rattle.std.specs.FinMap.{FinMap, get}
use Rattle.std.specs.FinSet as set
use Rattle.std.specs.FinSet.{FinSet, contains}
use Rattle.std.specs.declared.cmp.Ordering.{Ordering}
use Rattle.std.specs.Ordering.{nat_cmp, ordering_then}
use Rattle.cat_model.specs.contracts.key.Key as key
use Rattle.eng_tables.specs.Oids.{IsLeastUnused}
use Rattle.object_ids.specs.Slots.{Slot, slot_cmp, table_of}

-- a table, and an oid of one of its rows
abbrev pub Row : Type 0
Row = ℕ × ℕ

abbrev pub row_cmp : Row → Row → Ordering
row_cmp a b = ordering_then (nat_cmp a.0 b.0) (nat_cmp a.1 b.1)

-- which oid each has, which rows have these, and the oids that are in use
pub record IdsOf : Type 0 where
  pub ids : FinMap slot_cmp ℕ
  pub rows : FinSet row_cmp
  pub used : FinSet nat_cmp

abbrev pub ids_code : Coded IdsOf
ids_code =
    code_by (FinMap slot_cmp ℕ × (FinSet row_cmp × FinSet nat_cmp)) (coded× (map.code (coded× coded_ℕ key.the_row.coded) coded_ℕ) (coded× (set.code (coded× coded_ℕ coded_ℕ)) (set.code coded_ℕ))) (λ i. (i.ids, (i.rows, i.used))) (λ p. record { ids = p.0; rows = p.1.0; used = p.1.1 }) (λ _. refl)

-- none has an oid
abbrev pub none : IdsOf
none = record { ids = map.empty; rows = set.empty; used = set.empty }

-- the oids that are apart: no two rows of a table have the same, and none has 0
pub record AreApart (i : IdsOf) : Type 0 where
  pub apart : (s t : Slot) (oid : ℕ) → get i.ids s ≡ Some oid → get i.ids t ≡ Some oid → table_of s ≡ table_of t → s ≡ t
  pub some : (s : Slot) (oid : ℕ) → get i.ids s ≡ Some oid → oid ≡ 0 → ⊥
  pub rows : (s : Slot) (oid : ℕ) → get i.ids s ≡ Some oid → contains i.rows (table_of s, oid) ≡ true
  pub used : (r : Row) → contains i.rows r ≡ true → contains i.used r.1 ≡ true

-- it may have this oid: it has none, no row of its table has it, and it isn't 0
abbrev pub fits : IdsOf → Slot → ℕ → Bool
fits i s oid = not (is_some (get i.ids s)) && not (contains i.rows (table_of s, oid)) && not (oid == 0)

abbrev pub added : IdsOf → Slot → ℕ → IdsOf
added i s oid = record { ids = map.insert i.ids s oid; rows = set.insert i.rows (table_of s, oid); used = set.insert i.used oid }

-- it has this oid, where it may have it
abbrev pub with_id : IdsOf → Slot → ℕ → IdsOf
with_id i s oid = if fits i s oid then added i s oid else i

-- an oid that nothing names from now on
abbrev pub avoiding : IdsOf → ℕ → IdsOf
avoiding i oid = record i { used = set.insert i.used oid }

-- It has an oid already and keeps it, or gets the least unused one from 16384 up; or none is left.
abbrev pub IsNumberedFrom : Option ℕ → IdsOf → Slot → Bool → IdsOf → Type 0
IsNumberedFrom (Some had) old s done new = (done ≡ true) × (new ≡ old)
IsNumberedFrom None old s true new = (oid : ℕ) × IsLeastUnused old.used (Some oid) × (new ≡ added old s oid)
IsNumberedFrom None old s false new = IsLeastUnused old.used None × (new ≡ old)

abbrev pub IsNumbered : IdsOf → Slot → Bool → IdsOf → Type 0
IsNumbered old s done new = IsNumberedFrom (get old.ids s) old s done new

-- what had an oid has the same
abbrev pub KeepIds : IdsOf → IdsOf → Type 0
KeepIds before after = (s : Slot) (oid : ℕ) → get before.ids s ≡ Some oid → get after.ids s ≡ Some oid
