-- So many pieces were gone over.
use Rattle.std.proofs.Common.{◌≤◌, length}
use Rattle.line_fields.specs.Clear.{IsClear}
use Rattle.line_fields.proofs.Walks.{IsReached}
use Rattle.field_marks.proofs.lines.line_piece.Given as goal

abbrev pub invariant-loop-i : goal.invariant-loop-i
invariant-loop-i l = record {
  reached : IsClear l.fn.text → IsReached l.fn.text l.i l.rest;
  short : length l.rest ≤ length l.fn.text;
}
