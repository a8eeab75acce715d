use Rattle.well_formed.specs.Catalogues.{all_tables}
use Rattle.well_formed.proofs.Firsts.{clean, none_found, each_clean}
use Rattle.well_formed.proofs.laws.well_formed_tables_are_all.Goals as goal

pub returns : goal.returns
returns c = λ cat. (λ e. each_clean cat (clean cat all_tables e), λ none. none_found cat none all_tables)
