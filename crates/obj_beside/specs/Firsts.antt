-- What stands first beside keys, in a map.
use Rattle.std.specs.Prelude.{◌≡◌, List}
use Rattle.std.specs.BTreeMap.{BTreeMap, get}
use Rattle.std.specs.declared.cmp.Ordering.{Ordering}
use Rattle.obj_graph.specs.Links.{first_at}

-- the map has what stands first beside each key
abbrev pub AreFirsts : {K A : Type 0} → (K → K → Ordering) → BTreeMap K A → List (K × A) → Type 0
AreFirsts {K} {A} cmp firsts entries = (key : K) → get cmp firsts key ≡ first_at cmp entries key
