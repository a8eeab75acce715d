use Rattle.std.proofs.Common.{◌≡◌, ℕ, ◌+◌, ◌<◌, ◌≤◌, List, [], length, get_or, drop, sym, subst, ◌∙◌, rules, arith}
use Rattle.std.specs.List.{AllByRecursion}
use Rattle.std.proofs.lemmas.Grind.{get_or_default_zero}
use Rattle.std.proofs.lemmas.List.{drop_all}
use Rattle.plain_loads.specs.Meeting.{TableTakes}
use Rattle.same_folders.specs.Streams.{HoldLines, StandsFor}
use Rattle.same_folders.proofs.TablesAhead.{at_place, next_all, next_held, nothing_left}
use Rattle.same_folders.proofs.streams.tables_are_same.Goals as goal

pub loop-i-preserved : goal.loop-i-preserved
loop-i-preserved g c =
    let inv = c.loop-i.invariant in
    let first = c.args.first.now in
    let second = c.args.second.now in
    let tables = c.args.tables.now in
    let i = c.loop-i.i in
    let oid = get_or tables i 0 in
    let below : i < length tables = omega arith in
    let is : oid ≡ get_or tables i oid = sym (get_or_default_zero tables i oid below) in
    let one = rw c.in-Some.is at c.in_ok-len.ensures.same in
    let limited = rw c.in-Some.is at c.in_ok-len.ensures.limited in
    let takes = rw c.in-Some.is at c.in_ok-len.ensures.takes in
    record {
      kept = search rules;
      read_count = search rules;
      write_count = search rules;
      within = c.in-Some-total.ensures.1;
      same = λ tree known rest.
          inv.same tree known (next_held first second tree c.loop-i.bytes c.in-Some.len c.in-Some-total.sum tables i oid below is (one tree (inv.kept ∙ known)) limited c.in-Some-total.ensures.0 rest);
      known = λ tree known texts stand. (takes tree (inv.kept ∙ known) texts (at_place (StandsFor first tree texts) tables i oid below is stand) (inv.known tree known texts stand)).0;
      takes = λ tree known texts stand rest.
          inv.takes tree known texts stand
          (next_all (TableTakes c.args.named.now c.args.book.now texts) tables i oid below is (takes tree (inv.kept ∙ known) texts (at_place (StandsFor first tree texts) tables i oid below is stand) (inv.known tree known texts stand)).1 rest);
    }

pub returns-clause-same : goal.returns-clause-same
returns-clause-same g c = λ yes tree known.
    let tables = c.args.tables.now in
    let none : drop c.loop-i.i tables ≡ [] = drop_all c.loop-i.i tables (omega arith) in
    c.loop-i.invariant.same tree known (subst (HoldLines c.args.first.now c.args.second.now tree c.loop-i.bytes) (sym none) (nothing_left _ _ tree c.loop-i.bytes c.loop-i.invariant.within))

pub returns-clause-takes : goal.returns-clause-takes
returns-clause-takes g c = λ yes tree known texts stand.
    let tables = c.args.tables.now in
    let none : drop c.loop-i.i tables ≡ [] = drop_all c.loop-i.i tables (omega arith) in
    c.loop-i.invariant.takes tree known texts stand (subst (AllByRecursion (TableTakes c.args.named.now c.args.book.now texts)) (sym none) tt)
