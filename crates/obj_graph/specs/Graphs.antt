-- The graph of a selection: the chosen objects, and the links between two of them as edges between their places.
use Rattle.std.specs.Prelude.{ℕ, ◌==◌, List, ◌++◌, map, filter_map, Option, Some, None, if◌then◌else◌}
use Rattle.std.specs.List.{flat_map, enumerate_from}
use Rattle.cat_rows.specs.declared.catalogue.Catalogue.{Catalogue}
use Rattle.graph_parts.specs.declared.graph.Edge.{Edge}
use Rattle.graph_parts.specs.declared.object.Obj.{Obj}
use Rattle.graph_parts.specs.declared.object.ObjId.{ObjId}
use Rattle.graph_parts.specs.Parts.{Parts}
use Rattle.obj_graph.specs.declared.select.Select.{Select}
use Rattle.obj_graph.specs.Ids.{id_cmp}
use Rattle.obj_graph.specs.declared.link.Link.{Link}
use Rattle.obj_graph.specs.Links.{first_at}
use Rattle.obj_graph.specs.TypeLinks.{type_links}
use Rattle.obj_graph.specs.RelationLinks.{class_links, column_links, default_links, sequence_links, view_links}
use Rattle.obj_graph.specs.ConstraintLinks.{constraint_links, index_links}
use Rattle.obj_graph.specs.DependLinks.{depend_links}
use Rattle.obj_graph.specs.BoundaryLinks.{boundary_links}
use Rattle.obj_graph.specs.Objects.{objects_of}

-- what the rows of types, relations, columns and defaults say
unfoldable pub holder_links : Catalogue → List Link
holder_links cat =
    flat_map (type_links cat) cat.pg_type
    ++ flat_map class_links cat.pg_class
    ++ flat_map column_links cat.pg_attribute
    ++ flat_map (default_links cat) cat.pg_attrdef

-- what those of constraints, indexes, sequences and views say, and pg_depend
unfoldable pub other_links : Catalogue → List Link
other_links cat =
    flat_map (constraint_links cat) cat.pg_constraint
    ++ flat_map index_links cat.pg_index
    ++ flat_map sequence_links cat.pg_sequence
    ++ flat_map (view_links cat) cat.pg_rewrite
    ++ flat_map (depend_links cat) cat.pg_depend

-- all that the rows of a catalogue say of what depends on what
abbrev pub links : Catalogue → List Link
links cat = holder_links cat ++ other_links cat

-- ---- edges

-- the ids of objects with their places, counted from 0
abbrev pub numbered : List Obj → List (ObjId × ℕ)
numbered objects = map (λ e. (e.1.id, e.0)) (enumerate_from 0 objects)

-- the place of the object of an id
abbrev pub place_of : List Obj → ObjId → Option ℕ
place_of objects id = first_at id_cmp (numbered objects) id

abbrev pub between : Link → Option ℕ → Option ℕ → Option Edge
between l (Some from) (Some to) =
    if from == to then None else Some (record { from = from; to = to; moves_to = l.moves_to; stays = l.stays })
between l _ _ = None

-- the edge of a link between two of these objects; none where one of the two isn't among them, or both are one
abbrev pub edge_of : List Obj → Link → Option Edge
edge_of objects l = between l (place_of objects l.from) (place_of objects l.to)

unfoldable pub edges_between : List Obj → List Link → List Edge
edges_between objects ls = filter_map (edge_of objects) ls

-- the graph of the chosen objects
unfoldable pub graph_of : Catalogue → Select → Parts
graph_of cat select =
    let objects = objects_of cat select in
    record { objects = objects; edges = edges_between objects (links cat ++ flat_map boundary_links objects) }
