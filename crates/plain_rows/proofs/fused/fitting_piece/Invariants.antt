-- So many pieces were gone over, each taken by its column, and what was found among them stands at its place.
use Rattle.std.proofs.Common.{◌≡◌, ◌≤◌, List, ℕ, Some, drop, length}
use Rattle.std.specs.List.{AllZip, slice_get}
use Rattle.std.specs.Option.{option_map}
use Rattle.copy_text.specs.Pieces.{pieces}
use Rattle.line_fields.specs.Clear.{IsClear, first_line}
use Rattle.line_fields.proofs.Walks.{IsReached}
use Rattle.plain_rows.specs.Lines.{TakesPiece}
use Rattle.plain_rows.proofs.fused.fitting_piece.Given as goal

abbrev pub invariant-loop-i : goal.invariant-loop-i
invariant-loop-i l = record {
  reached : IsClear l.fn.text → IsReached l.fn.text l.i l.rest;
  taken : IsClear l.fn.text → AllZip TakesPiece (drop l.i l.columns) (pieces (first_line l.rest)) → AllZip TakesPiece l.columns (pieces (first_line l.fn.text));
  there : IsClear l.fn.text → (p : List ℕ) → option_map (λ t. t.now) l.found ≡ Some p → slice_get (pieces (first_line l.fn.text)) l.place ≡ Some p;
  short : length l.rest ≤ length l.fn.text;
}
