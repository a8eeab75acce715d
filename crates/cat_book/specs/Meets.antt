-- What it means that a table's rows meet its conditions, said row by row and pair by pair.
use Rattle.std.specs.Prelude.{◌≡◌, ℕ, ◌<◌, Bool, true, false, List, Option, Some, None}
use Rattle.std.specs.List.{slice_get}
use Rattle.std.specs.declared.cmp.Ordering.{Ordering}
use Rattle.std.specs.Ordering.{nat_cmp, eq_by_cmp}
use Rattle.cat_book.specs.Rules.{Rules, name_cmp, place_cmp, is_nothing}

-- no two rows have the same key
abbrev pub AreDistinct : {R K : Type 0} → (K → K → Ordering) → (R → Option K) → List R → Type 0
AreDistinct {R} {K} cmp key rows = (i j : ℕ) (earlier later : R) (k l : K) → i < j → slice_get rows i ≡ Some earlier → slice_get rows j ≡ Some later → key earlier ≡ Some k → key later ≡ Some l → eq_by_cmp cmp l k ≡ false

-- no two rows bear a mark
abbrev pub AtMostOne : {R : Type 0} → (R → Bool) → List R → Type 0
AtMostOne {R} mark rows = (i j : ℕ) (earlier later : R) → i < j → slice_get rows i ≡ Some earlier → slice_get rows j ≡ Some later → mark earlier ≡ true → mark later ≡ false

-- each row is so
abbrev pub EachRow : {R : Type 0} → (R → Type 0) → List R → Type 0
EachRow {R} P rows = (i : ℕ) (row : R) → slice_get rows i ≡ Some row → P row

pub record Meets {C R : Type 0} (rules : Rules C R) (cat : C) (rows : List R) : Type 0 where
  -- own oids, names and places are distinct, and one row at most bears the mark
  pub oids : AreDistinct nat_cmp (λ r. (rules.keys r).oid) rows
  pub names : AreDistinct name_cmp (λ r. (rules.keys r).name) rows
  pub places : AreDistinct place_cmp (λ r. (rules.keys r).place) rows
  pub marks : AtMostOne (λ r. (rules.keys r).is_marked) rows
  -- no own oid is 0
  pub objects : EachRow (λ row. is_nothing (rules.keys row).oid ≡ false) rows
  -- what a row leads to and needs is there, its texts are good, and nothing of it is left out
  pub there : EachRow (λ row. (rules.unmet cat row).dangles ≡ false) rows
  pub texts : EachRow (λ row. (rules.unmet cat row).is_bad ≡ false) rows
  pub inside : EachRow (λ row. (rules.unmet cat row).left_out ≡ None) rows
  -- the row is there that the table must have
  pub needed : rules.needed cat ≡ true
