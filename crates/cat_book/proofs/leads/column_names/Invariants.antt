-- The set is that of the columns so far.
use Rattle.std.proofs.Common.{take, map}
use Rattle.cat_names.specs.Indexed.{AreKeys}
use Rattle.cat_book.specs.Leads.{named, column_cmp}
use Rattle.cat_book.proofs.leads.column_names.Given as goal

abbrev pub invariant-loop-row : goal.invariant-loop-row
invariant-loop-row l = AreKeys column_cmp l.set (map named (take l.row-index l.rows))
