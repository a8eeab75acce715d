use Rattle.std.proofs.Common.{◌≡◌, ◌≤◌, ◌-◌, length, drop}
use Rattle.copy_text.specs.Pieces.{pieces}
use Rattle.copy_text.specs.Reading.{fields_of, row_of}
use Rattle.copy_text.proofs.RowLemmas.{with_front}
use Rattle.copy_text.proofs.reading.read_fields.Given as goal

abbrev pub invariant-loop-row : goal.invariant-loop-row
invariant-loop-row l = (l.start ≤ length l.line) × (with_front l.row (fields_of l.start (pieces (drop l.start l.line))) ≡ row_of l.line)

abbrev pub decreases-loop-row : goal.decreases-loop-row
decreases-loop-row l = length l.line - l.start
