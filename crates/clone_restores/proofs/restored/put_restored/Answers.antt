use Rattle.std.proofs.Common.{sym, subst, inl, inr, refl}
use Rattle.std.proofs.lemmas.Result.{IfOk-weaker, IfErr-weaker, on_err_weaker}
use Rattle.tool_words.specs.Answers.{IsLate}
use Rattle.clone_restores.proofs.restored.put_restored.Goals as goal

-- the writing of the folder ended on its way
pub returns-in-Err-clause-cut : goal.returns-in-Err-clause-cut
returns-in-Err-clause-cut g c = λ plan is made. inl (record { texts = c.args.restored.texts; stand = made.stand; saved = rw is (c.in-Err.ensures.err); silent = refl })

-- the folder was written
pub returns-in-Ok-clause-ok : goal.returns-in-Ok-clause-ok
returns-in-Ok-clause-ok g c = λ plan is made.
    IfOk-weaker c.tell_restored.result _ _ (λ _ told. record {
      written = record { texts = c.args.restored.texts; stand = made.stand; saved = rw is (c.in-Ok.ensures.ok) };
      told = rw (made.told) at told;
    }) c.tell_restored.ensures.ok

pub returns-in-Ok-clause-late : goal.returns-in-Ok-clause-late
returns-in-Ok-clause-late g c = IfErr-weaker c.tell_restored.result _ _ (λ outcome is. subst IsLate (sym is) tt) c.tell_restored.ensures.failed

-- and the telling of the report ended on its way
pub returns-in-Ok-clause-cut : goal.returns-in-Ok-clause-cut
returns-in-Ok-clause-cut g c = λ plan is made.
    on_err_weaker c.tell_restored.result (λ told. inr (record {
      written = record { texts = c.args.restored.texts; stand = made.stand; saved = rw is (c.in-Ok.ensures.ok) };
      told = rw (made.told) at told;
    })) c.tell_restored.ensures.err
