use Rattle.std.proofs.Common.{refl}
use Rattle.sql_lex.specs.Next.{tokens_within, tokens_of}
use Rattle.ddl_scripts.proofs.Computing.{reads}
use Rattle.row_texts.specs.DefaultTexts.{default_said, is_default}
use Rattle.constraint_table.specs.Said.{constraint_said}
use Rattle.obj_graph.specs.Objects.{objects_of}
use Rattle.obj_graph.specs.Links.{key_ends, relation_ends, type_ends}
use Rattle.obj_graph.specs.TypeLinks.{type_links}
use Rattle.obj_graph.specs.RelationLinks.{class_links, column_links, default_links, sequence_links, view_links}
use Rattle.obj_graph.specs.ConstraintLinks.{keys_of, constraint_links, index_links}
use Rattle.obj_graph.specs.DependLinks.{depend_links}
use Rattle.obj_graph.specs.BoundaryLinks.{boundary_links}
use Rattle.obj_graph.specs.Graphs.{holder_links, other_links, edges_between, graph_of}
use Rattle.graph_laws.proofs.laws.keys_meet_the_examples.Goals as goal

pub returns : goal.returns
unfolding reads tokens_within tokens_of default_said is_default constraint_said objects_of key_ends relation_ends type_ends type_links class_links column_links default_links sequence_links view_links keys_of constraint_links index_links depend_links boundary_links holder_links other_links edges_between graph_of
returns c = record {
  objects = refl;
  edges = refl;
}
