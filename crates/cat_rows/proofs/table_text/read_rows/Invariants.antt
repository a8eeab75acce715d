use Rattle.std.proofs.Common.{◌≡◌, ◌+◌, ◌-◌, ◌≤◌, length, map, drop}
use Rattle.copy_text.specs.Lines.{lines, before_end_mark}
use Rattle.cat_rows.specs.Kinds.{columns}
use Rattle.cat_rows.specs.Reading.{table_of, table_from}
use Rattle.cat_rows.proofs.FrontLemmas.{with_front}
use Rattle.cat_rows.proofs.table_text.read_rows.Given as goal

abbrev pub invariant-loop-start : goal.invariant-loop-start
invariant-loop-start g l = (l.at ≤ length l.text) × (l.number ≤ l.at + 1)
    × (table_of g.R.TableRow.table l.text ≡ with_front (map g.R.TableRow.cells l.rows.items) (table_from (columns g.R.TableRow.table) l.number (before_end_mark (lines (drop l.at l.text)))))

abbrev pub decreases-loop-start : goal.decreases-loop-start
decreases-loop-start g l = length l.text - l.at
