use Rattle.std.proofs.Common.{leb, sym, ap, ◌∙◌}
use Rattle.std.specs.Bool.{then_some}
use Rattle.row_texts.proofs.Wholes.{all_read_at}
use Rattle.row_texts.proofs.tokens.all_read.Goals as goal

pub returns-in-Ok-clause-exact : goal.returns-in-Ok-clause-exact
returns-in-Ok-clause-exact g c = λ due gives.
    c.then_some.ensures
    ∙ ap (λ n. then_some (leb n c.in-Ok.end) c.in-Ok.value) c.len.ensures
    ∙ sym (all_read_at c.args.pieces.now c.args.reading due c.in-Ok.value c.in-Ok.end gives c.in-Ok.is)
