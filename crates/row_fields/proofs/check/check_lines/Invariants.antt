use Rattle.std.proofs.Common.{length}
use Rattle.data_rows.proofs.RowLemmas.{Kept}
use Rattle.row_fields.proofs.check.check_lines.Given as goal

-- the rows so far are those of the lines so far
abbrev pub invariant-loop-line : goal.invariant-loop-line
invariant-loop-line l = Kept l.columns l.text l.rest l.count

abbrev pub decreases-loop-line : goal.decreases-loop-line
decreases-loop-line l = length l.rest
