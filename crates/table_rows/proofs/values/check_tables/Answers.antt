use Rattle.std.proofs.lemmas.Result.{err_from_is_err_and}
use Rattle.cat_names.specs.Lookups.{count_of}
use Rattle.table_rows.specs.Values.{text_of, first_fault}
use Rattle.table_rows.proofs.FirstFaults.{passed, failed, ended}
use Rattle.table_rows.proofs.values.check_tables.Goals as goal

pub returns-in_err-check_table : goal.returns-in_err-check_table
returns-in_err-check_table c =
    let columns = count_of c.args.columns.now in
    let text = text_of c.args.rows.now in
    let tables = c.args.tables.now in
    let i = c.loop-table.table-index in
    let p = err_from_is_err_and c.from_residual.result c.from_residual.ensures.1 in
    rw (p.1, p.2) (failed columns text _ tables i (first_fault columns text tables) c.loop-table-test.true c.loop-table.invariant (rw (c.count.ensures, c.text_of.ensures) at c.in_err-check_table.ensures))

pub loop-table-preserved : goal.loop-table-preserved
loop-table-preserved c =
    let columns = count_of c.args.columns.now in
    let text = text_of c.args.rows.now in
    let tables = c.args.tables.now in
    passed columns text tables c.loop-table.table-index (first_fault columns text tables) c.loop-table-test.true c.loop-table.invariant (rw (c.count.ensures, c.text_of.ensures) at c.in_ok-check_table.ensures)

pub returns : goal.returns
returns c =
    let columns = count_of c.args.columns.now in
    let text = text_of c.args.rows.now in
    let tables = c.args.tables.now in
    ended columns text tables c.loop-table.table-index (first_fault columns text tables) c.loop-table-test.false c.loop-table.invariant
