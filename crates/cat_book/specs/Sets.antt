-- Sets of keys that are seen as other values: names that are borrowed from their rows.
use Rattle.std.specs.Prelude.{◌≡◌, ℕ, ℤ, List, map}
use Rattle.std.specs.Borrow.{Bor}
use Rattle.std.specs.BTreeSet.{BTreeSet}
use Rattle.std.specs.declared.cmp.Ordering.{Ordering}
use Rattle.cat_model.specs.Values.{Bytes}
use Rattle.cat_names.specs.Indexed.{AreKeys}
use Rattle.cat_book.specs.Rules.{RowName}

-- the set is that of these values
pub record HoldsSeen {K V : Type 0} (seen : K → V) (cmp : V → V → Ordering) (set : BTreeSet K) (values : List V) : Type 0 where
  pub keys : List K
  pub are : AreKeys (λ a b. cmp (seen a) (seen b)) set keys
  pub same : map seen keys ≡ values

-- a row's name
abbrev pub LentName : Type 0
LentName = ℕ × ℕ × ℤ × Bor Bytes

abbrev pub seen_name : LentName → RowName
seen_name name = (name.0, name.1, name.2, name.3.now)
