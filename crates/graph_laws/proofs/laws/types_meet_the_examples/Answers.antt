use Rattle.std.proofs.Common.{refl}
use Rattle.obj_graph.specs.Objects.{objects_of}
use Rattle.obj_graph.specs.Links.{key_ends, relation_ends, type_ends}
use Rattle.obj_graph.specs.TypeLinks.{type_links}
use Rattle.obj_graph.specs.RelationLinks.{class_links, column_links, default_links, sequence_links, view_links}
use Rattle.obj_graph.specs.ConstraintLinks.{keys_of, constraint_links, index_links}
use Rattle.obj_graph.specs.DependLinks.{depend_links}
use Rattle.obj_graph.specs.BoundaryLinks.{boundary_links}
use Rattle.obj_graph.specs.Graphs.{holder_links, other_links, edges_between, graph_of}
use Rattle.graph_laws.proofs.laws.types_meet_the_examples.Goals as goal

pub returns : goal.returns
unfolding objects_of key_ends relation_ends type_ends type_links class_links column_links default_links sequence_links view_links keys_of constraint_links index_links depend_links boundary_links holder_links other_links edges_between graph_of
returns c = record {
  objects = refl;
  edges = refl;
}
