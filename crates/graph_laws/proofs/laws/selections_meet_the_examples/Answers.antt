use Rattle.std.proofs.Common.{refl}
use Rattle.patterns.specs.Reading.{marks_from, open_from, second_dot_from, fault_of, pattern_of}
use Rattle.patterns.specs.Matching.{hits}
use Rattle.obj_graph.specs.Chosen.{select_fault}
use Rattle.obj_graph.specs.Objects.{objects_of}
use Rattle.graph_laws.proofs.laws.selections_meet_the_examples.Goals as goal

pub returns-clause-chosen : goal.returns-clause-chosen
unfolding marks_from open_from second_dot_from fault_of pattern_of hits select_fault objects_of
returns-clause-chosen c = record {
  every = refl;
  without_data = refl;
  data_alone = refl;
  one_schema = refl;
  without_schema = refl;
  one_table = refl;
  in_schema = refl;
  owned = refl;
  without_table = refl;
  without_rows = refl;
}

pub returns-clause-refused : goal.returns-clause-refused
unfolding marks_from open_from second_dot_from fault_of pattern_of hits select_fault objects_of
returns-clause-refused c = record {
  nothing_named = refl;
  schema_hit = refl;
  no_schema = refl;
  one_of_two = refl;
  strict = refl;
  with_a_dot = refl;
  table_hit = refl;
  no_table = refl;
  index = refl;
  of_another_schema = refl;
  schemas_first = refl;
  taken_away = refl;
}
