use Rattle.good_texts.proofs.Constraints.{checks_read, primaries_read, uniques_read, foreign_keys_read}
use Rattle.good_texts.proofs.laws.good_constraints_are_read_from_rows.Goals as goal

pub returns-clause-checks : goal.returns-clause-checks
returns-clause-checks c = checks_read

pub returns-clause-primaries : goal.returns-clause-primaries
returns-clause-primaries c = primaries_read

pub returns-clause-uniques : goal.returns-clause-uniques
returns-clause-uniques c = uniques_read

pub returns-clause-foreign_keys : goal.returns-clause-foreign_keys
returns-clause-foreign_keys c = foreign_keys_read
