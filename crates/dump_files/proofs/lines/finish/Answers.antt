use Rattle.dump_files.proofs.StepLemmas.{last_out, last_fault, last_stop}
use Rattle.dump_files.proofs.lines.finish.Goals as goal

pub returns-then-has_no_row-clause-ok : goal.returns-then-has_no_row-clause-ok
returns-then-has_no_row-clause-ok c = last_stop c.args.columns c.args.rows c.args.out.now.items c.args.held.now c.extend_from_slice.new.self.items (c.has_no_row.ensures.none c.if-has_no_row.true) c.in_ok-extend_from_slice.ensures.items

pub returns-in-Some-clause-fault : goal.returns-in-Some-clause-fault
returns-in-Some-clause-fault c =
    last_fault c.args.columns c.args.rows c.args.out.now.items c.args.held.now (c.has_no_row.ensures.one c.if-has_no_row.false) c.in-Some.fault (rw c.in-Some.is at c.in_ok-fault.ensures.bad)

pub returns-clause-ok : goal.returns-clause-ok
returns-clause-ok c =
    let good = rw c.in_default.is at c.in_ok-fault.ensures.good in
    last_out c.args.columns c.args.rows c.args.out.now.items c.args.held.now (c.has_no_row.ensures.one c.if-has_no_row.false) good.0 c.spell_line.new.out.items c.extend_from_slice-2.new.self.items good.1 good.2 c.in_ok-extend_from_slice-2.ensures.items
