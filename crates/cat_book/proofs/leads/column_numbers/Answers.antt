use Rattle.std.proofs.Common.{◌≤◌, length, map, take, sym, ap, subst, arith}
use Rattle.std.proofs.lemmas.List.{take_all}
use Rattle.cat_names.specs.Indexed.{AreKeys}
use Rattle.cat_names.proofs.Steps.{column_more}
use Rattle.cat_book.specs.Leads.{numbered}
use Rattle.cat_book.specs.Rules.{place_cmp}
use Rattle.cat_book.proofs.leads.column_numbers.Goals as goal

pub loop-row-preserved : goal.loop-row-preserved
loop-row-preserved c =
    let rows = c.args.rows.now in
    let i = c.loop-row.row-index in
    let row = c.row-item.result in
    subst (AreKeys place_cmp c.add_number.new.numbers) (sym (column_more numbered rows i row c.loop-row-test.true c.row-item.is)) (c.in_ok-add_number.ensures (map numbered (take i rows)) c.loop-row.invariant)

pub returns : goal.returns
returns c =
    let rows = c.args.rows.now in
    let i = c.loop-row.row-index in
    let all : length rows ≤ i = omega (arith, c.loop-row-test.false) in
    subst (AreKeys place_cmp c.loop-row.set) (ap (map numbered) (take_all i rows all)) c.loop-row.invariant
