-- The texts of tables by their oids, as a finite map.
use Rattle.std.specs.Prelude.{ℕ, map, Vec}
use Rattle.std.specs.BTreeMap.{BTreeMap}
use Rattle.std.specs.FinMap.{FinMap, from_entries}
use Rattle.std.specs.Ordering.{nat_cmp}
use Rattle.cat_model.specs.Values.{Bytes}

abbrev pub TextsByOid : Type 0
TextsByOid = FinMap nat_cmp Bytes

-- what a map of the code stands for
abbrev pub seen : {Z : Type 0} → BTreeMap ℕ (Vec ℕ Z) → TextsByOid
seen texts = from_entries (map (λ e. (e.0, e.1.items)) texts.entries)
