use Rattle.ddl_scripts.proofs.Common.{arith, refl}
use Rattle.ddl_scripts.proofs.RowLaws.{goes_on, last_row, stops, ends, whole, between}
use Rattle.ddl_scripts.proofs.copy_rows.rows_from.Goals as goal

pub returns-then-end-text-clause-exact : goal.returns-then-end-text-clause-exact
returns-then-end-text-clause-exact c =
    let text = c.args.text.now in
    let h = c.lines.invariant in
    let n = c.in-Row in
    let rows = last_row text c.args.from c.lines.at n.start n.end n.next h.low h.within n.ensures.line n.ensures.exact c.if-end-text.true h.same in
    whole text c.args.from n.end c.in_ok-rows-in-Row.rows.items (omega (arith, h.low, h.within)) c.if-end-text.true rows c.in_ok-rows-in-Row.ensures

pub lines-preserved : goal.lines-preserved
lines-preserved c =
    let text = c.args.text.now in
    let h = c.lines.invariant in
    let n = c.in-Row in
    record {
      low = let line = n.ensures.line in omega (arith, h.low, line.3);
      within = n.ensures.line.4;
      same = goes_on text c.args.from c.lines.at n.start n.end n.next h.low h.within n.ensures.line n.ensures.exact c.if-end-text.false h.same;
    }

pub returns-in-Stop-clause-exact : goal.returns-in-Stop-clause-exact
returns-in-Stop-clause-exact c =
    let h = c.lines.invariant in
    between c.args.text.now c.args.from c.lines.at c.rows_between.result h.low h.within h.same (stops c.args.text.now c.lines.at _ c.in-Stop.ensures.line refl) c.rows_between.ensures

pub returns-in-End-clause-exact : goal.returns-in-End-clause-exact
returns-in-End-clause-exact c =
    let h = c.lines.invariant in
    between c.args.text.now c.args.from c.lines.at c.rows_between-in-End.result h.low h.within h.same (ends c.args.text.now c.lines.at c.in-End.ensures.line) c.rows_between-in-End.ensures
