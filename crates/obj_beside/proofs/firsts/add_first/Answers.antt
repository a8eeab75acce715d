use Rattle.std.proofs.Common.{◌≡◌, true, false, is_some, rules}
use Rattle.std.specs.BTreeMap.{get}
use Rattle.std.specs.Cmp.{eq_by_cmp_equiv}
use Rattle.obj_beside.proofs.FirstsKept.{firsts_new, firsts_old}
use Rattle.obj_beside.proofs.firsts.add_first.Goals as goal

pub returns-then-contains_key : goal.returns-then-contains_key
returns-then-contains_key g c =
    let there : is_some (get g.K.Ord.cmp c.args.firsts.now c.args.key) ≡ true = search rules in
    firsts_old g.K.Ord.cmp (eq_by_cmp_equiv g.met.K.Ord.total) c.args.firsts.now c.args.key c.args.value there

pub returns : goal.returns
returns g c =
    let free : is_some (get g.K.Ord.cmp c.args.firsts.now c.args.key) ≡ false = search rules in
    firsts_new g.K.Ord.cmp (eq_by_cmp_equiv g.met.K.Ord.total) c.args.firsts.now c.insert.new.self c.args.key c.args.value free (λ q. c.in_ok-insert.ensures.updates.0 q)
