-- The objects that are made, found by their ids without going through them.
use Rattle.std.specs.Prelude.{◌≡◌, ℕ, List}
use Rattle.std.specs.declared.cmp.Ordering.{Ordering}
use Rattle.std.specs.BTreeMap.{BTreeMap, get}
use Rattle.graph_parts.specs.declared.object.Obj.{Obj}
use Rattle.graph_parts.specs.declared.object.ObjId.{ObjId}
use Rattle.graph_parts.specs.contracts.object.ObjIdOrd.TheImpl as id_ord
use Rattle.dep_sort.specs.Cut.{made_at}

-- how the code compares ids
abbrev pub id_order : ObjId → ObjId → Ordering
id_order = (id_ord.ghosts).cmp

-- the map has the place of each id among the objects
abbrev pub IsIndexed : List Obj → BTreeMap ObjId ℕ → Type 0
IsIndexed objects places = (id : ObjId) → get id_order places id ≡ made_at objects id
