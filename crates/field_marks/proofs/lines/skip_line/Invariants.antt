-- What is left ends with the first line.
use Rattle.std.proofs.Common.{◌≡◌, ◌≤◌, length}
use Rattle.line_fields.specs.Clear.{IsClear, behind_line}
use Rattle.field_marks.proofs.lines.skip_line.Given as goal

abbrev pub invariant-pieces : goal.invariant-pieces
invariant-pieces l = record {
  clear : IsClear l.fn.text → IsClear l.rest;
  line : IsClear l.fn.text → behind_line l.fn.text ≡ behind_line l.rest;
  short : length l.rest ≤ length l.fn.text;
}

abbrev pub decreases-pieces : goal.decreases-pieces
decreases-pieces l = length l.rest
