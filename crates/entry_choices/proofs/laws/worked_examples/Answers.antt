use Rattle.std.proofs.Common.{refl}
use Rattle.entry_choices.specs.Choices.{section_among, is_taken_among, wanted}
use Rattle.entry_choices.proofs.laws.worked_examples.Goals as goal

pub returns : goal.returns
unfolding section_among is_taken_among wanted
returns c = record {
  all = refl;
  schema_only = refl;
  data_only = refl;
  of_schema = refl;
  without_schema = refl;
  of_table = refl;
  of_sequence = refl;
  of_data = refl;
}
