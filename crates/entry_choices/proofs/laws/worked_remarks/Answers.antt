use Rattle.std.proofs.Common.{refl}
use Rattle.entry_choices.specs.Choices.{section_among, is_taken_among, wanted}
use Rattle.entry_choices.proofs.laws.worked_remarks.Goals as goal

pub returns : goal.returns
unfolding section_among is_taken_among wanted
returns c = record {
  all = refl;
  without_comments = refl;
  without_grants = refl;
  data_only = refl;
  of_table = refl;
  without_schema = refl;
  post_data = refl;
  pre_data = refl;
}
