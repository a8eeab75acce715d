-- So many pieces of the line were gone over.
use Rattle.std.proofs.Common.{◌≤◌, length}
use Rattle.line_fields.specs.Clear.{IsClear}
use Rattle.line_fields.proofs.Walks.{IsReached}
use Rattle.row_fields.proofs.counted.behind_row.Given as goal

abbrev pub invariant-loop-i : goal.invariant-loop-i
invariant-loop-i l = record {
  reached : IsClear l.text → IsReached l.text l.i l.rest;
  short : length l.rest ≤ length l.text;
}
