-- Where the columns that are left take the pieces that are left, all take all.
use Rattle.std.proofs.Common.{drop}
use Rattle.std.specs.List.{AllZip}
use Rattle.copy_text.specs.Pieces.{pieces}
use Rattle.plain_rows.specs.Lines.{TakesPiece}
use Rattle.plain_rows.proofs.fitting.pieces_fit.Given as goal

abbrev pub invariant-loop-i : goal.invariant-loop-i
invariant-loop-i l = AllZip TakesPiece (drop l.i l.columns) (pieces l.rest) → AllZip TakesPiece l.columns (pieces l.line)
