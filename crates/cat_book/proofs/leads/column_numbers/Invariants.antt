-- The set is that of the columns so far.
use Rattle.std.proofs.Common.{take, map}
use Rattle.cat_names.specs.Indexed.{AreKeys}
use Rattle.cat_book.specs.Leads.{numbered}
use Rattle.cat_book.specs.Rules.{place_cmp}
use Rattle.cat_book.proofs.leads.column_numbers.Given as goal

abbrev pub invariant-loop-row : goal.invariant-loop-row
invariant-loop-row l = AreKeys place_cmp l.set (map numbered (take l.row-index l.rows))
