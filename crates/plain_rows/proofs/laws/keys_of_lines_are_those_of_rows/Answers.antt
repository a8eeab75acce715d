use Rattle.plain_rows.proofs.LineKeys.{rows_differ, rows_have_parents}
use Rattle.plain_rows.proofs.laws.keys_of_lines_are_those_of_rows.Goals as goal

pub returns-clause-differ : goal.returns-clause-differ
returns-clause-differ c = rows_differ

pub returns-clause-among : goal.returns-clause-among
returns-clause-among c = rows_have_parents
