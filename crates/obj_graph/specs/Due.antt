-- What is due of a selection: its graph, or the pattern that is refused.
use Rattle.std.specs.Prelude.{◌≡◌, ⊤, Option, Some, None, Result, Ok, Err}
use Rattle.cat_rows.specs.declared.catalogue.Catalogue.{Catalogue}
use Rattle.graph_parts.specs.Parts.{Parts}
use Rattle.obj_graph.specs.declared.select.ObjectsError.{ObjectsError}
use Rattle.obj_graph.specs.declared.select.ObjectsError.TheVariants as errors
use Rattle.obj_graph.specs.declared.select.Select.{Select}
use Rattle.obj_graph.specs.declared.select.SelectFault.{SelectFault}
use Rattle.obj_graph.specs.Chosen.{select_fault}
use Rattle.obj_graph.specs.Graphs.{graph_of}

abbrev pub unless_refused : Option SelectFault → Parts → Result Parts SelectFault
unless_refused (Some fault) graph = Err fault
unless_refused None graph = Ok graph

abbrev pub objects_due : Catalogue → Select → Result Parts SelectFault
objects_due cat select = unless_refused (select_fault cat select) (graph_of cat select)

-- what was answered is what is due, unless memory ran out
abbrev pub Gives : Result Parts ObjectsError → Result Parts SelectFault → Type 0
Gives (Ok graph) due = due ≡ Ok graph
Gives (Err errors.Memory) due = ⊤
Gives (Err (errors.Fault fault)) due = due ≡ Err fault
