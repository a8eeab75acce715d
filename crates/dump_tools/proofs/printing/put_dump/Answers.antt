use Rattle.std.proofs.Common.{refl, subst}
use Rattle.std.proofs.lemmas.Result.{IfOk-weaker, on_err_weaker}
use Rattle.dump_outputs.specs.Forms.{dump_put}
use Rattle.dump_tools.specs.Due.{IsFinal, put_of}
use Rattle.dump_tools.proofs.Ending.{both_ok}
use Rattle.dump_tools.proofs.Pieces.{were_put, part_put}
use Rattle.dump_tools.proofs.Printed.{stop_answers, stop_put, cut_stop}
use Rattle.dump_tools.proofs.printing.put_dump.Goals as goal

-- all was put out
pub returns-in-Ok-clause-answers : goal.returns-in-Ok-clause-answers
unfolding put_of
returns-in-Ok-clause-answers g c = λ tree known ready clear.
    let h = rw (c.deref.ensures.value, c.deref-2.ensures.value) at (c.in-Ok.ensures.ok tree known (rw (c.deref-2.ensures.value) clear)) in
    rw (h.0) refl

pub returns-in-Ok-clause-ok : goal.returns-in-Ok-clause-ok
unfolding put_of
returns-in-Ok-clause-ok g c = λ tree known ready clear.
    let h = rw (c.deref.ensures.value, c.deref-2.ensures.value) at (c.in-Ok.ensures.ok tree known (rw (c.deref-2.ensures.value) clear)) in
    rw (h.0) (were_put (dump_put tree c.args.form.now c.args.head.now c.args.plan.now.entries.items c.args.plan.now.files.items).pieces _ _ _ _ _ h.1)

-- a row failed, and its line was told
pub returns-in-Err-clause-answers : goal.returns-in-Err-clause-answers
unfolding put_of dump_put
returns-in-Err-clause-answers g c = λ tree known ready clear.
    let e = rw (c.deref.ensures.value, c.deref-2.ensures.value) at (c.in-Err.ensures.err tree known (rw (c.deref-2.ensures.value) clear)) in
    let due = dump_put tree c.args.form.now c.args.head.now c.args.plan.now.entries.items c.args.plan.now.files.items in
    IfOk-weaker c.end_dump.result _ _ (λ answer h. stop_answers tree _ due.bad c.in-Err.stop answer ready e.0 h.0 h.1)
    (both_ok c.end_dump.result _ _ c.end_dump.ensures.answers c.end_dump.ensures.ends)

pub returns-in-Err-clause-ok : goal.returns-in-Err-clause-ok
unfolding put_of dump_put
returns-in-Err-clause-ok g c = λ tree known ready clear.
    let e = rw (c.deref.ensures.value, c.deref-2.ensures.value) at (c.in-Err.ensures.err tree known (rw (c.deref-2.ensures.value) clear)) in
    let due = dump_put tree c.args.form.now c.args.head.now c.args.plan.now.entries.items c.args.plan.now.files.items in
    IfOk-weaker c.end_dump.result _ _ (λ answer h.
    stop_put tree _ due.bad c.in-Err.stop due.pieces _ _ _ _ _ _ ready e.0 (subst IsFinal h.0.0 h.0.1) (part_put due.pieces _ _ _ _ _ e.1) h.1)
    (both_ok c.end_dump.result _ _ (both_ok c.end_dump.result _ _ c.end_dump.ensures.answers c.end_dump.ensures.ends) c.end_dump.ensures.ok)

-- or not
pub returns-in-Err-clause-cut : goal.returns-in-Err-clause-cut
unfolding put_of
returns-in-Err-clause-cut g c = λ tree known ready clear.
    let e = rw (c.deref.ensures.value, c.deref-2.ensures.value) at (c.in-Err.ensures.err tree known (rw (c.deref-2.ensures.value) clear)) in
    let due = dump_put tree c.args.form.now c.args.head.now c.args.plan.now.entries.items c.args.plan.now.files.items in
    on_err_weaker c.end_dump.result (λ cut teller left. cut_stop teller tree _ due.bad c.in-Err.stop due.pieces _ _ left _ _ _ _ ready e.0 (part_put due.pieces _ _ _ _ _ e.1) cut) c.end_dump.ensures.cut

pub returns-in-Err-clause-counted : goal.returns-in-Err-clause-counted
returns-in-Err-clause-counted g c = λ inputs. c.end_dump.ensures.counted _ inputs _ _ _ _ _ c.in-Err.ensures.read_count c.in-Err.ensures.write_count
