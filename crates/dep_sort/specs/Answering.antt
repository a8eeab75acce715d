-- What is answered of a graph: the order or the loop that is due, or that memory ran out.
use Rattle.std.specs.Prelude.{◌≡◌, List, Result, Ok, Err}
use Rattle.graph_parts.specs.declared.object.ObjId.{ObjId}
use Rattle.dep_sort.specs.declared.ordering.OrderError.{OrderError}
use Rattle.dep_sort.specs.declared.ordering.OrderError.TheVariants as errors
use Rattle.dep_sort.specs.Ordering.{Sorted}

-- this loop is told, or memory ran out
abbrev pub IsTold : OrderError → List ObjId → Type 0
IsTold (errors.Loop told) path = told.items ≡ path
IsTold errors.Memory path = Unit {0}

abbrev pub Fails : OrderError → Result Sorted (List ObjId) → Type 0
Fails (errors.Loop told) due = due ≡ Err told.items
Fails errors.Memory due = Unit {0}

abbrev pub Gives : Result Sorted OrderError → Result Sorted (List ObjId) → Type 0
Gives (Ok order) due = due ≡ Ok order
Gives (Err error) due = Fails error due
