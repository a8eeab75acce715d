use Rattle.std.proofs.Common.{◌∙◌, sym}
use Rattle.data_rows.proofs.RowLemmas.{kept_start, kept_end, kept_fault, kept_step}
use Rattle.row_fields.proofs.check.check_lines.Goals as goal

pub loop-line-init : goal.loop-line-init
loop-line-init c = kept_start c.args.columns c.args.text.now

pub returns-in-Some-2 : goal.returns-in-Some-2
returns-in-Some-2 c =
    kept_fault c.args.columns c.args.text.now c.loop-line.rest.now c.loop-line.count c.loop-line.invariant
    c.in-Some.line.now c.in-Some.behind.now c.in-Some.ensures.some c.in-Some-2.fault (sym c.in_ok-fault.ensures ∙ c.in-Some-2.is)

pub loop-line-preserved : goal.loop-line-preserved
loop-line-preserved c =
    kept_step c.args.columns c.args.text.now c.loop-line.rest.now c.loop-line.count c.loop-line.invariant
    c.in-Some.line.now c.in-Some.behind.now c.in-Some.ensures.some c.in-Some.ensures.shorter (sym c.in_ok-fault.ensures ∙ c.in_default-2.is)

pub returns : goal.returns
returns c =
    kept_end c.args.columns c.args.text.now c.loop-line.rest.now c.loop-line.count c.loop-line.invariant c.in_default.ensures.none
