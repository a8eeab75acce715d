use Rattle.std.proofs.Common.{◌+◌, ap}
use Rattle.std.proofs.lemmas.Bool.{eq-eqb, ne_eqb}
use Rattle.dump_files.proofs.OwnLemmas.{own_line, own_fault}
use Rattle.dump_files.proofs.row.keep_line.Goals as goal

pub returns-clause-good : goal.returns-clause-good
returns-clause-good c =
    let same = eq-eqb _ _ c.if-found-columns.false in
    own_line c.args.columns c.args.line.now (c.tab_count-found.result + 1) c.args.out.now.items c.put_line.new.out.items c.requires (ap (λ n. n + 1) c.tab_count-found.ensures.tabs) same c.in_ok-put_line.ensures

pub returns-then-found-columns-clause-bad : goal.returns-then-found-columns-clause-bad
returns-then-found-columns-clause-bad c =
    let other = ne_eqb _ _ c.if-found-columns.true in
    own_fault c.args.columns c.args.line.now (c.tab_count-found.result + 1) c.requires (ap (λ n. n + 1) c.tab_count-found.ensures.tabs) other
