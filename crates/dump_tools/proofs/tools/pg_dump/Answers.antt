use Rattle.std.proofs.Common.{◌≡◌, ℕ, List, Option, Some, None, refl, ◌∙◌}
use Rattle.std.proofs.lemmas.Result.{IfOk-weaker, IfErr-weaker, on_err_weaker}
use Rattle.tool_words.specs.declared.words.Teller.{Teller}
use Rattle.dump_tools.specs.Due.{dump_due}
use Rattle.dump_tools.specs.Outputs.{world}
use Rattle.dump_tools.specs.Runs.{HasCut}
use Rattle.tool_words.proofs.Lining.{always_err}
use Rattle.dump_tools.specs.Works.{plan_of_work}
use Rattle.dump_tools.proofs.Counting.{alike, step_behind}
use Rattle.dump_tools.proofs.Ending.{both_ok, under_ok, under_err, early_due}
use Rattle.dump_tools.proofs.Putting.{cut_kept, cut_due}
use Rattle.dump_tools.proofs.tools.pg_dump.Goals as goal

-- nothing was put out before all was read
pub returns-in_err-work-clause-cut : goal.returns-in_err-work-clause-cut
returns-in_err-work-clause-cut g c =
    always_err c.from_residual.result
    (λ teller tree left known. cut_kept teller _ _ _ left _ _ c.in_err-work.ensures.kept)

-- the dump that is due was put out
pub returns-clause-done : goal.returns-clause-done
returns-clause-done g c =
    under_ok c.put_dump.result _ _ (λ tree known.
    let told = c.in_ok-work.ensures.kept ∙ known in
    let ready = c.in_ok-work.ensures.ready tree known in
    IfOk-weaker c.put_dump.result _ _ (λ answer h. record {
      plan = plan_of_work tree c.in_ok-work.work;
      is_due = c.in_ok-work.ensures.due tree known;
      answers = h.0;
      carried = rw c.in_ok-work.ensures.kept at h.1;
    }) (both_ok c.put_dump.result _ _ (c.put_dump.ensures.answers tree told ready.0 ready.1) (c.put_dump.ensures.ok tree told ready.0 ready.1)))

-- or its writing ended on its way
pub returns-clause-refused : goal.returns-clause-refused
returns-clause-refused g c = IfErr-weaker c.put_dump.result _ _ (λ outcome early tree known. early_due outcome _ early) c.put_dump.ensures.early

pub returns-clause-kept : goal.returns-clause-kept
returns-clause-kept g c = IfErr-weaker c.put_dump.result _ _ (λ outcome early late. elim (late early) [ ]) c.put_dump.ensures.early

pub returns-clause-quiet : goal.returns-clause-quiet
returns-clause-quiet g c = IfErr-weaker c.put_dump.result _ _ (λ outcome early late. elim (late early) [ ]) c.put_dump.ensures.early

pub returns-clause-cut : goal.returns-clause-cut
returns-clause-cut g c =
    on_err_weaker c.put_dump.result (λ cut teller tree left known. cut tree known teller left)
    (under_err c.put_dump.result (λ tree. g.F.Files.tree c.args.files.now ≡ Some tree)
    (λ tree. (teller : Teller) → (left : Option (List ℕ)) → HasCut None teller (dump_due c.args.asked c.args.moment tree)
    (world (g.F.Files.tree c.args.files.now) left (g.O.Sink.written c.args.out.now) (g.E.Sink.written c.args.err.now))
    (world (g.F.Files.tree c.put_dump.new.files) left (g.O.Sink.written c.put_dump.new.out) (g.E.Sink.written c.put_dump.new.err)))
    (λ tree known.
    on_err_weaker c.put_dump.result (λ cut teller left.
    cut_due teller None None _ _ _ _ refl (c.in_ok-work.ensures.due tree known) (rw c.in_ok-work.ensures.kept at (cut teller left)))
    (c.put_dump.ensures.cut tree (c.in_ok-work.ensures.kept ∙ known) (c.in_ok-work.ensures.ready tree known).0 (c.in_ok-work.ensures.ready tree known).1)))

pub returns-clause-counted : goal.returns-clause-counted
returns-clause-counted g c = λ inputs.
    step_behind c.put_dump.result _ _ _
    (alike _ _ inputs inputs _ _ _ _ _ _ c.in_ok-work.ensures.read_count refl c.in_ok-work.ensures.write_count refl refl)
    (c.put_dump.ensures.counted inputs)
