use Rattle.std.proofs.Common.{rules, sym}
use Rattle.std.proofs.lemmas.Result.{on_ok_weaker, err_from_is_err_and}
use Rattle.dump_ports.proofs.Seen.{changed_seen, kept_seen, begun_seen}
use Rattle.dump_ports.proofs.texts.append_text.Goals as goal

pub returns-in_err-extend_from_slice-clause-err : goal.returns-in_err-extend_from_slice-clause-err
returns-in_err-extend_from_slice-clause-err c =
    let text = c.extend_from_slice.new.self in
    let p = err_from_is_err_and c.from_residual.result c.from_residual.ensures.1 in
    rw p.1 (kept_seen c.args.texts.now (c.get_mut.follows.lender text) c.args.name.now c.in-Some.text.now text (sym c.in-Some.ensures.value) ((c.get_mut.follows.holds text).3 (search rules)) c.in_err-extend_from_slice.ensures.items)

pub returns-in-Some-clause-ok : goal.returns-in-Some-clause-ok
returns-in-Some-clause-ok c =
    let text = c.extend_from_slice.new.self in
    changed_seen c.args.texts.now (c.get_mut.follows.lender text) c.args.name.now c.in-Some.text.now text c.args.bytes.now (sym c.in-Some.ensures.value) ((c.get_mut.follows.holds text).3 (search rules)) c.in_ok-extend_from_slice.ensures.items

pub returns-clause-ok : goal.returns-clause-ok
returns-clause-ok c = on_ok_weaker c.set_text.result (begun_seen c.args.texts.now c.set_text.new.texts c.args.name.now c.args.bytes.now (sym c.in_default.ensures.value)) (rw c.get_mut.follows.holds-at-none at c.set_text.ensures.ok)
