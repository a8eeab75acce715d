use Rattle.std.proofs.Common.{refl}
use Rattle.dump_outputs.specs.Forms.{dump_put}
use Rattle.dump_plans.specs.Plans.{dumping}
use Rattle.dump_tools.specs.Due.{put_of}
use Rattle.dump_tools.proofs.Pieces.{were_put}
use Rattle.clone_tools.proofs.Stopping.{break_of, counted_stop}
use Rattle.clone_tools.proofs.first.write_work.Goals as goal

-- all was written
pub returns-in-Ok-clause-whole : goal.returns-in-Ok-clause-whole
unfolding put_of
returns-in-Ok-clause-whole g c = λ tree known ready.
    let work = c.args.work.now in
    let h = rw (c.deref.ensures.value, c.deref-2.ensures.value) at (c.in-Ok.ensures.ok tree known (rw (c.deref-2.ensures.value) ready.1)) in
    record {
      first = put_of tree work.form work.head (dumping work.plan);
      is_due = refl;
      whole = h.0;
      put = λ told. were_put (dump_put tree work.form work.head work.plan.entries.items work.plan.files.items).pieces _ _ _ _ told h.1;
    }

-- or up to what ended it
pub returns-in-Err-clause-part : goal.returns-in-Err-clause-part
unfolding put_of
returns-in-Err-clause-part g c = λ tree known ready.
    let work = c.args.work.now in
    let due = dump_put tree work.form work.head work.plan.entries.items work.plan.files.items in
    let e = rw (c.deref.ensures.value, c.deref-2.ensures.value) at (c.in-Err.ensures.err tree known (rw (c.deref-2.ensures.value) ready.1)) in
    rw (c.stop_outcome.ensures) (record {
      first = put_of tree work.form work.head (dumping work.plan);
      is_due = refl;
      front = e.1.front;
      is_front = e.1.is;
      put = λ told. were_put e.1.front _ _ _ _ told e.1.put;
      ends = break_of tree work.plan.files.items due.bad c.in-Err.stop ready.0 e.0;
    })

pub returns-in-Err-clause-counted : goal.returns-in-Err-clause-counted
returns-in-Err-clause-counted g c = λ inputs lines. rw (c.stop_outcome.ensures) (counted_stop (Unit {0}) c.in-Err.stop _ _ inputs _ _ _ _ lines c.in-Err.ensures.read_count c.in-Err.ensures.write_count)
