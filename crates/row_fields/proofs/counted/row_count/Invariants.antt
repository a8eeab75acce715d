-- So many rows were counted.
use Rattle.std.proofs.Common.{◌+◌, ◌≤◌, length}
use Rattle.line_fields.specs.Clear.{IsClearText}
use Rattle.row_fields.proofs.Counting.{IsCounted}
use Rattle.row_fields.proofs.counted.row_count.Given as goal

abbrev pub invariant-lines : goal.invariant-lines
invariant-lines l = record {
  counted : IsClearText l.text → IsCounted l.columns l.text l.rest l.count;
  room : l.count + length l.rest ≤ length l.text;
}

abbrev pub decreases-lines : goal.decreases-lines
decreases-lines l = length l.rest
