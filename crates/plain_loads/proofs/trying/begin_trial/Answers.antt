use Rattle.std.proofs.lemmas.Result.{IfOk-weaker}
use Rattle.plain_loads.proofs.PartsSeen.{if_some, judges}
use Rattle.plain_loads.proofs.trying.begin_trial.Goals as goal

pub returns : goal.returns
returns c =
    let named = c.args.named.now in
    let cat = c.args.book.now in
    let path = rw c.in-Some.is at c.in_ok-path.ensures in
    let many = rw c.column_count.ensures at (c.in_ok-has_columns.ensures c.if-not-branch.false) in
    let there = rw c.in-Some-2.is at c.in_ok-columns.ensures in
    IfOk-weaker c.trial_at.result _ _ (λ found some. if_some found _ _ (λ trial tries.
    judges named cat c.args.known.now c.args.table c.in-Some.path trial path many (tries there))
    some)
    c.trial_at.ensures
