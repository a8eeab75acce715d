use Rattle.well_formed.specs.Catalogues.{all_tables}
use Rattle.well_formed.proofs.Firsts.{told}
use Rattle.well_formed.proofs.laws.the_first_table_is_told.Goals as goal

pub returns : goal.returns
returns c = λ cat fault e. told cat all_tables fault e
