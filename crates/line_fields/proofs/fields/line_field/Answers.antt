use Rattle.std.proofs.Common.{◌≡◌, ℕ, Some, subst, arith}
use Rattle.std.specs.List.{slice_get}
use Rattle.copy_text.specs.Pieces.{pieces}
use Rattle.line_fields.proofs.RawPieces.{left_next, left_first, field_there}
use Rattle.line_fields.proofs.fields.line_field.Goals as goal

pub loop-i-preserved : goal.loop-i-preserved
loop-i-preserved c = left_next c.args.line.now c.loop-i.rest.now c.in_ok-rest.rest.now c.loop-i.i c.loop-i.invariant c.in_ok-rest.ensures

pub returns : goal.returns
returns c =
    let line = c.args.line.now in
    let piece = c.in_ok-piece.piece.now in
    let at_end : c.loop-i.i ≡ c.args.place = omega arith in
    let there = left_first line c.loop-i.rest.now piece c.loop-i.i c.loop-i.invariant c.in_ok-piece.ensures in
    λ row reads. field_there line c.args.place piece row c.in_ok-piece.ensures.stands (subst (λ (n : ℕ). slice_get (pieces line) n ≡ Some piece) at_end there) reads
