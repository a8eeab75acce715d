use Rattle.std.proofs.Common.{None, refl}
use Rattle.std.proofs.lemmas.Result.{IfOk-weaker, IfErr-weaker, on_err_weaker, err_from_is_err_and}
use Rattle.tool_words.proofs.Lining.{always_err}
use Rattle.dump_outputs.specs.Forms.{one_piece}
use Rattle.dump_tools.specs.Due.{Puts}
use Rattle.dump_tools.proofs.Archives.{restore_read, restore_refused}
use Rattle.dump_tools.proofs.Counting.{step_behind}
use Rattle.dump_tools.proofs.Ending.{both_ok, early_due}
use Rattle.dump_tools.proofs.Putting.{cut_due}
use Rattle.dump_tools.proofs.Scripting.{takes_any}
use Rattle.dump_tools.proofs.Taking.{begun, behind_cut, cut_taking}
use Rattle.dump_tools.proofs.restoring.pg_restore.Goals as goal

-- nothing but the input, or some of it, was taken
pub returns-in_err-text-clause-cut : goal.returns-in_err-text-clause-cut
returns-in_err-text-clause-cut g c =
    always_err c.from_residual.result
    (λ teller tree bytes told known tells. rw c.in_err-text.ensures.kept (cut_taking _ _ _ teller _ _ _ told (c.in_err-text.ensures.part bytes tells)))

pub returns-in_err-text-clause-refused : goal.returns-in_err-text-clause-refused
returns-in_err-text-clause-refused g c =
    let p = err_from_is_err_and c.from_residual.result c.from_residual.ensures.1 in
    rw (p.1, p.2) (λ tree bytes known tells. restore_refused _ c.args.asked.now tree bytes (c.in_err-text.ensures.due tree bytes known tells))

-- the text was put where it goes, or its writing ended on its way
pub returns-clause-refused : goal.returns-clause-refused
returns-clause-refused g c = IfErr-weaker c.put_text.result _ _ (λ outcome early tree bytes known tells. early_due outcome _ early) c.put_text.ensures.early

pub returns-clause-kept : goal.returns-clause-kept
returns-clause-kept g c = IfErr-weaker c.put_text.result _ _ (λ outcome early late. elim (late early) [ ]) c.put_text.ensures.early

pub returns-clause-quiet : goal.returns-clause-quiet
returns-clause-quiet g c = IfErr-weaker c.put_text.result _ _ (λ outcome early late. elim (late early) [ ]) c.put_text.ensures.early

pub returns-clause-taken : goal.returns-clause-taken
returns-clause-taken g c = λ bytes tells. takes_any c.put_text.result _ _ _ (c.in_ok-text.ensures.taken bytes tells)

pub returns-clause-counted : goal.returns-clause-counted
returns-clause-counted g c = λ lines.
    step_behind c.put_text.result _ _ _ (c.in_ok-text.ensures.counted (g.O.Sink.faults c.args.out.now) lines)
    (c.put_text.ensures.counted (g.I.Source.faults c.read_archive.new.input) lines)

pub returns-clause-done : goal.returns-clause-done
returns-clause-done g c =
    IfOk-weaker c.put_text.result _ _ (λ answer h tree bytes told known tells. record {
      plan = Puts (one_piece c.args.asked.now.target c.in_ok-text.text.items None);
      is_due = restore_read c.args.asked.now tree bytes c.in_ok-text.text.items (c.in_ok-text.ensures.due tree bytes known tells);
      answers = h.0;
      carried = rw c.in_ok-text.ensures.kept at (rw c.deref.ensures.value at (h.1 told));
    }) (both_ok c.put_text.result _ _ c.put_text.ensures.answers c.put_text.ensures.ok)

pub returns-clause-cut : goal.returns-clause-cut
returns-clause-cut g c =
    on_err_weaker c.put_text.result (λ cut teller tree bytes told known tells.
    behind_cut _ teller _ _ _ _
    (begun _ _ _ _ _ _ _ told told (c.in_ok-text.ensures.taken bytes tells) c.in_ok-text.ensures.kept refl refl)
    (cut_due teller None None _ _ _ _ refl (restore_read c.args.asked.now tree bytes c.in_ok-text.text.items (c.in_ok-text.ensures.due tree bytes known tells))
    (rw c.deref.ensures.value at (cut teller (g.I.Source.left c.read_archive.new.input) told))))
    c.put_text.ensures.cut
