-- What stands before the data and behind them: the boundary before the data depends on all that holds data, the data on that
-- boundary, the boundary behind the data on these, and all that is made behind the data on that one.
use Rattle.std.specs.Prelude.{List, [], ◌∷◌}
use Rattle.graph_parts.specs.declared.object.Obj.{Obj}
use Rattle.graph_parts.specs.declared.object.ObjId.{ObjId}
use Rattle.graph_parts.specs.declared.object.ObjKind.{ObjKind}
use Rattle.graph_parts.specs.declared.object.ObjKind.TheVariants as kind
use Rattle.obj_graph.specs.Ids.{pre_data, post_data}
use Rattle.obj_graph.specs.declared.link.Link.{Link}
use Rattle.obj_graph.specs.Links.{link}

abbrev pub before_data : ObjId → List Link
before_data id = link pre_data id ∷ []

abbrev pub of_data : ObjId → List Link
of_data id = link id pre_data ∷ link post_data id ∷ []

abbrev pub behind_data : ObjId → List Link
behind_data id = link id post_data ∷ []

-- by what an object is
abbrev pub boundary_links_by : ObjKind → ObjId → List Link
boundary_links_by kind.Schema id = before_data id
boundary_links_by kind.UserType id = before_data id
boundary_links_by kind.Table id = before_data id
boundary_links_by kind.View id = before_data id
boundary_links_by kind.Dummy id = before_data id
boundary_links_by kind.Sequence id = before_data id
boundary_links_by kind.Default id = before_data id
boundary_links_by kind.PreData id = link post_data pre_data ∷ []
boundary_links_by kind.TableData id = of_data id
boundary_links_by kind.SeqValue id = of_data id
boundary_links_by kind.PostData id = []
boundary_links_by kind.Constraint id = behind_data id
boundary_links_by kind.Index id = behind_data id
boundary_links_by kind.Rule id = behind_data id
boundary_links_by kind.Foreign id = behind_data id

unfoldable pub boundary_links : Obj → List Link
boundary_links o = boundary_links_by o.kind o.id
