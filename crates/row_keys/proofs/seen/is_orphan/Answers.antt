use Rattle.std.proofs.Common.{not, ap, sym, ◌∙◌}
use Rattle.row_keys.specs.Known.{is_orphan}
use Rattle.row_keys.proofs.seen.is_orphan.Goals as goal

pub returns-in-Some : goal.returns-in-Some
returns-in-Some c = λ keys among. ap not (c.contains.ensures ∙ among c.in-Some.key) ∙ ap (is_orphan keys) (sym c.in-Some.is)
