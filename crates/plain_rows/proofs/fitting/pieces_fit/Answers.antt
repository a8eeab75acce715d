use Rattle.std.proofs.Common.{◌≡◌, ◌<◌, ◌∷◌, Option, List, ℕ, length, ap, sym, ◌∙◌, arith}
use Rattle.std.specs.Borrow.{Bor}
use Rattle.std.specs.Option.{option_map}
use Rattle.copy_text.specs.Pieces.{pieces}
use Rattle.line_fields.specs.Fields.{pieces_left}
use Rattle.plain_rows.proofs.FieldSteps.{next_piece}
use Rattle.plain_rows.proofs.fitting.pieces_fit.Goals as goal

pub loop-i-preserved : goal.loop-i-preserved
loop-i-preserved c =
    let columns = c.args.columns.now in
    let i = c.loop-i.i in
    let rest = c.loop-i.rest.now in
    let piece = c.in-Some.piece.now in
    let behind = c.in-Some-behind.behind.now in
    let below : i < length columns = omega arith in
    let parts : pieces rest ≡ piece ∷ pieces behind = c.in-Some.ensures ∙ ap (λ (o : Option (Bor (List ℕ))). piece ∷ pieces_left (option_map (λ b. b.now) o)) c.in-Some-behind.is in
    λ all. c.loop-i.invariant (next_piece columns i c.index-columns-i.result rest piece (pieces behind) below c.index-columns-i.is parts (sym c.takes.ensures ∙ c.if-not-takes.false) all)
