use Rattle.std.proofs.Common.{◌≡◌, ◌≤◌, ◌-◌, length, take, drop}
use Rattle.copy_text.specs.Pieces.{pieces}
use Rattle.copy_text.proofs.PieceLemmas.{onto_front}
use Rattle.copy_text.proofs.reading.first_piece_len.Given as goal

abbrev pub invariant-loop-found : goal.invariant-loop-found
invariant-loop-found l = (l.at ≤ length l.line) × (pieces l.line ≡ onto_front (take l.at l.line) (pieces (drop l.at l.line)))

abbrev pub decreases-loop-found : goal.decreases-loop-found
decreases-loop-found l = length l.line - l.at
