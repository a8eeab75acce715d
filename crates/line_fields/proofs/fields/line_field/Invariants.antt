-- What is left has the pieces from the i-th on.
use Rattle.line_fields.proofs.RawPieces.{Left}
use Rattle.line_fields.proofs.fields.line_field.Given as goal

abbrev pub invariant-loop-i : goal.invariant-loop-i
invariant-loop-i l = Left l.line l.i l.rest
