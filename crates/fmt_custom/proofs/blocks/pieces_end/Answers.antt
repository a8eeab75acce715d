use Rattle.std.proofs.Common.{◌≡◌, ◌∙◌, ℕ, List, Option, None, Ok, ap}
use Rattle.std.proofs.lemmas.Result.{err_from_is_err_and}
use Rattle.std.specs.Option.{option_copied}
use Rattle.toc_parts.specs.Parts.{Reading}
use Rattle.toc_parts.proofs.Steps.{fewer}
use Rattle.fmt_custom.specs.declared.fault.BlockHalt.{BlockHalt}
use Rattle.fmt_custom.specs.Blocks.{piece, pieces, rest_of}
use Rattle.fmt_custom.proofs.BlockLaws.{piece_laws, piece_some, rest_goes_on, rest_ends, rest_fails}
use Rattle.fmt_custom.proofs.blocks.pieces_end.Goals as goal

abbrev read_as : List ℕ → Option (List ℕ) → Reading BlockHalt (Option (List ℕ))
read_as behind v = Ok (v, behind)

pub returns-in_err-found : goal.returns-in_err-found
returns-in_err-found c =
    let p = err_from_is_err_and c.from_residual.result c.from_residual.ensures.1 in
    rw (p.1, p.2) (rest_fails c.pieces.left.now c.in_err-found.field-0.0 (rest_of (pieces.read c.args.rest.now)) c.in_err-found.ensures c.pieces.invariant)

pub pieces-smaller : goal.pieces-smaller
pieces-smaller c = fewer piece piece_laws piece_some c.pieces.left.now (option_copied c.in_ok-found.found) c.in_ok-found.behind.now c.in_ok-found.ensures

pub pieces-preserved : goal.pieces-preserved
pieces-preserved c =
    let is = c.in_ok-found.ensures ∙ ap (λ o. read_as c.in_ok-found.behind.now (option_copied o)) c.in-Some.is in
    rest_goes_on c.pieces.left.now _ c.in_ok-found.behind.now (rest_of (pieces.read c.args.rest.now)) is c.pieces.invariant

pub returns-in-None : goal.returns-in-None
returns-in-None c =
    let is : piece.read c.pieces.left.now ≡ Ok (None, c.in_ok-found.behind.now) = c.in_ok-found.ensures ∙ ap (λ o. read_as c.in_ok-found.behind.now (option_copied o)) c.in-None.is in
    rest_ends c.pieces.left.now c.in_ok-found.behind.now (rest_of (pieces.read c.args.rest.now)) is c.pieces.invariant
