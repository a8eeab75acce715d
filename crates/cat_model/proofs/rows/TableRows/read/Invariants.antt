-- The rows so far, with those of the lines that are left, are the rows of all lines.
use Rattle.std.proofs.Common.{◌≡◌, ◌++◌, length}
use Rattle.cat_model.specs.RowTexts.{rows_held}
use Rattle.cat_model.proofs.rows.TableRows.read.Given as goal

abbrev pub invariant-lines : goal.invariant-lines
invariant-lines l = l.rows ++ rows_held l.rest ≡ rows_held l.text

abbrev pub decreases-lines : goal.decreases-lines
decreases-lines l = length l.rest
