use Rattle.std.proofs.Common.{◌∙◌, rules}
use Rattle.cat_model.specs.Trees.{seen}
use Rattle.relation_effects.proofs.Columns.{passed, refused, ended}
use Rattle.relation_effects.proofs.tables.needs_columns.Goals as goal

pub loop-column-preserved : goal.loop-column-preserved
loop-column-preserved c next =
    c.loop-column.invariant next
    ∙ passed (seen c.args.named.now) c.args.q.now c.args.columns.now c.loop-column.column-index c.loop-column.resolved.items next
    c.column-item.result c.loop-column-test.true c.column-item.is
    c.in_ok-column.column c.in_ok-column.ensures
    c.push.new.self.items c.in_ok-push.ensures.items

pub returns-in_err-column : goal.returns-in_err-column
returns-in_err-column c next =
    let due = refused (seen c.args.named.now) c.args.q.now c.args.columns.now c.loop-column.column-index c.loop-column.resolved.items next
    c.column-item.result c.loop-column-test.true c.column-item.is
    c.in_err-column.field-0.0 c.in_err-column.ensures
    (c.loop-column.invariant next)
    in search (rules, due)

pub returns : goal.returns
returns c next =
    c.loop-column.invariant next
    ∙ ended (seen c.args.named.now) c.args.q.now c.args.columns.now c.loop-column.column-index c.loop-column.resolved.items next c.loop-column-test.false
