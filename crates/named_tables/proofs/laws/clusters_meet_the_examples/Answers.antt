use Rattle.std.proofs.Common.{refl}
use Rattle.named_tables.proofs.Small.{empty_stands, others_do_not}
use Rattle.named_tables.proofs.laws.clusters_meet_the_examples.Goals as goal

pub returns-clause-empty : goal.returns-clause-empty
returns-clause-empty c = empty_stands

pub returns-clause-others : goal.returns-clause-others
returns-clause-others c = others_do_not

pub returns-clause-values : goal.returns-clause-values
returns-clause-values c = record {
  member = refl;
  owners = refl;
  everyones = refl;
  table_letters = refl;
}
