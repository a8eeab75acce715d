use Rattle.std.proofs.Common.{◌+◌, ◌∙◌, arith}
use Rattle.rows_fit.proofs.InOrder.{no_more}
use Rattle.rows_fit.proofs.fields.fields_fault.Goals as goal

pub returns : goal.returns
returns c = λ primary row marked.
    c.loop-i.invariant primary row marked ∙ no_more primary row (c.loop-i.i + 1) c.args.columns.now c.args.fields.now c.loop-i.i (omega arith)
