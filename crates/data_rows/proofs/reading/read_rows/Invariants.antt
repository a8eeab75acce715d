-- The rows so far, with those of the lines that are left, are the rows of all lines.
use Rattle.std.proofs.Common.{◌≡◌, ◌++◌, length}
use Rattle.std.specs.List.{filter_map}
use Rattle.std.specs.Result.{result_ok}
use Rattle.data_rows.specs.Rows.{read_lines}
use Rattle.data_rows.proofs.reading.read_rows.Given as goal

abbrev pub invariant-loop-line : goal.invariant-loop-line
invariant-loop-line l = l.rows.items ++ filter_map result_ok (read_lines l.rest) ≡ filter_map result_ok (read_lines l.text)

abbrev pub decreases-loop-line : goal.decreases-loop-line
decreases-loop-line l = length l.rest
