use Rattle.std.proofs.Common.{◌≡◌, length}
use Rattle.fmt_custom.specs.Blocks.{pieces, rest_of}
use Rattle.fmt_custom.proofs.blocks.pieces_end.Given as goal

abbrev pub invariant-pieces : goal.invariant-pieces
invariant-pieces l = rest_of (pieces.read l.left) ≡ rest_of (pieces.read l.rest)

abbrev pub decreases-pieces : goal.decreases-pieces
decreases-pieces l = length l.left
