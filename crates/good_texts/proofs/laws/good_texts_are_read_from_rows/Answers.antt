use Rattle.good_texts.proofs.Wholes.{types_read, defaults_read, bodies_read, indexes_read}
use Rattle.good_texts.proofs.laws.good_texts_are_read_from_rows.Goals as goal

pub returns-clause-types : goal.returns-clause-types
returns-clause-types c = types_read

pub returns-clause-defaults : goal.returns-clause-defaults
returns-clause-defaults c = defaults_read

pub returns-clause-bodies : goal.returns-clause-bodies
returns-clause-bodies c = bodies_read

pub returns-clause-indexes : goal.returns-clause-indexes
returns-clause-indexes c = indexes_read
