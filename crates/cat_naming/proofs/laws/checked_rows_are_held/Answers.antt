use Rattle.cat_naming.proofs.RowLists.{held}
use Rattle.cat_naming.proofs.laws.checked_rows_are_held.Goals as goal

pub returns : goal.returns
returns c = λ columns text rows e. held text rows (c.rows_are_what_their_lines_read.ensures.lines columns text rows e)
