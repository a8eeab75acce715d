use Rattle.std.proofs.Common.{◌∙◌, ℕ, List, Option, Ok, ap}
use Rattle.std.specs.Option.{option_copied}
use Rattle.toc_parts.specs.Parts.{Reading}
use Rattle.fmt_custom.specs.declared.fault.BlockHalt.{BlockHalt}
use Rattle.fmt_custom.specs.Blocks.{pieces_by, pieces_in}
use Rattle.fmt_custom.proofs.BlockLaws.{pieces_unrolled}
use Rattle.fmt_custom.proofs.blocks.next_piece.Goals as goal

abbrev read_as : List ℕ → Option (List ℕ) → Reading BlockHalt (Option (List ℕ))
read_as behind v = Ok (v, behind)

pub returns-in-Some : goal.returns-in-Some
returns-in-Some c = pieces_unrolled c.args.rest.now ∙ ap (pieces_by pieces_in) (c.in-Ok.ensures ∙ ap (λ o. read_as c.in-Ok.behind.now (option_copied o)) c.in-Some.is)

pub returns-in-None : goal.returns-in-None
returns-in-None c = pieces_unrolled c.args.rest.now ∙ ap (pieces_by pieces_in) (c.in-Ok.ensures ∙ ap (λ o. read_as c.in-Ok.behind.now (option_copied o)) c.in-None.is)

pub returns-in-Err : goal.returns-in-Err
returns-in-Err c = pieces_unrolled c.args.rest.now ∙ ap (pieces_by pieces_in) c.in-Err.ensures
