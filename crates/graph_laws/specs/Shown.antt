-- How a graph is shown in the examples: its objects by their ids, and each edge by the places of its ends, counted from 0, and
-- the id of what it moves to. And the selection that chooses all.
use Rattle.std.specs.Prelude.{ℕ, List, map, Option, None, option_map}
use Rattle.cat_rows.specs.declared.catalogue.Catalogue.{Catalogue}
use Rattle.graph_parts.specs.declared.graph.Edge.{Edge}
use Rattle.graph_parts.specs.declared.object.ObjId.{ObjId}
use Rattle.obj_graph.specs.declared.select.Select.{Select}
use Rattle.obj_graph.specs.Closed.{whole}
use Rattle.obj_graph.specs.Objects.{objects_of}
use Rattle.obj_graph.specs.Graphs.{graph_of}

abbrev pub all : Select
all = whole

abbrev pub ids : Catalogue → Select → List ObjId
ids cat select = map (λ o. o.id) (objects_of cat select)

abbrev pub Arrow : Type 0
Arrow = ℕ × ℕ × Option ObjId

abbrev pub arrow : Edge → Arrow
arrow e = (e.from, e.to, option_map (λ o. o.id) e.moves_to)

abbrev pub arrows : Catalogue → Select → List Arrow
arrows cat select = map arrow (graph_of cat select).edges

-- an edge that stays
abbrev pub stays : ℕ → ℕ → Arrow
stays from to = (from, to, None)
