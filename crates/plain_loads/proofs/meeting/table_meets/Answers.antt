use Rattle.std.proofs.lemmas.Result.{IfOk-weaker}
use Rattle.plain_loads.proofs.Holding.{takes}
use Rattle.plain_loads.proofs.meeting.table_meets.Goals as goal

pub returns : goal.returns
returns c =
    let tables = c.args.tables.now in
    let path = rw c.in-Some.is at c.in_ok-q.ensures in
    let many = rw c.column_count.ensures at (c.in_ok-has_columns.ensures c.if-not-branch.false) in
    IfOk-weaker c.path_meets.result _ _
    (λ meets m yes. takes tables.named.now tables.book.now tables.rows.now c.args.table c.in-Some.q path many (rw c.text_of.ensures at (m yes)))
    c.path_meets.ensures
