use Rattle.std.proofs.Common.{◌≡◌, ◌++◌, length}
use Rattle.copy_text.specs.Pieces.{ends_in_backslash}
use Rattle.copy_text.specs.Escapes.{decode}
use Rattle.copy_text.proofs.reading.unescape.Given as goal

abbrev pub invariant-loop-at : goal.invariant-loop-at
invariant-loop-at l = (l.bytes.items ++ decode l.rest ≡ decode l.piece) × (ends_in_backslash l.rest ≡ ends_in_backslash l.piece)

abbrev pub decreases-loop-at : goal.decreases-loop-at
decreases-loop-at l = length l.rest
