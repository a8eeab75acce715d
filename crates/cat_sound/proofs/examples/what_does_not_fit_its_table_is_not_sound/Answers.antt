use Rattle.cat_sound.proofs.Refuted.{no_column, too_few, out_of_bounds}
use Rattle.cat_sound.proofs.examples.what_does_not_fit_its_table_is_not_sound.Goals as goal

pub returns : goal.returns
returns c = record {
  column = λ texts named q name k columns is table missing sound. no_column texts named sound q name k columns is table missing;
  row = λ texts named q row rows columns is table wrong sound. too_few texts named sound q row rows columns is table wrong;
  number = λ texts named q n called s is sequence wrong sound. out_of_bounds texts named sound q n called s is sequence wrong;
}
