use Rattle.std.proofs.Common.{◌≡◌, ◌≤◌, ◌-◌, length, drop, map}
use Rattle.std.specs.Option.{option_map}
use Rattle.copy_text.specs.Pieces.{pieces}
use Rattle.copy_text.specs.Reading.{fields_of, row_of}
use Rattle.copy_text.proofs.RowLemmas.{with_front}
use Rattle.row_fields.proofs.plain.read_pieces.Given as goal

-- the fields so far and those of what is left are the line's
abbrev pub invariant-pieces : goal.invariant-pieces
invariant-pieces l = record {
  within : l.start ≤ length l.line;
  so_far : with_front (map (λ f. option_map (λ t. t.now) f) l.fields.items) (fields_of l.start (pieces (drop l.start l.line))) ≡ row_of l.line;
}

abbrev pub decreases-pieces : goal.decreases-pieces
decreases-pieces l = length l.line - l.start
