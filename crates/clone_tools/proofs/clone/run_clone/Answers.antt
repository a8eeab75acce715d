use Rattle.std.proofs.Common.{inr}
use Rattle.dump_tools.proofs.Counting.{lines_risen}
use Rattle.dump_tools.proofs.Telling.{not_early, counted_final}
use Rattle.tool_words.specs.Messages.{teller_name}
use Rattle.clone_tools.specs.Due.{clone_due}
use Rattle.clone_tools.proofs.Telling.{told_answer, told_counted}
use Rattle.clone_tools.proofs.clone.run_clone.Goals as goal

-- both halves have ended
pub returns-in-Ok-clause-answered : goal.returns-in-Ok-clause-answered
returns-in-Ok-clause-answered g c = λ tree left known. inr (not_early c.in-Ok.answer c.in-Ok.ensures.ends, c.in-Ok.ensures.done tree left known)

pub returns-in-Ok-clause-counted : goal.returns-in-Ok-clause-counted
returns-in-Ok-clause-counted g c = λ inputs. counted_final c.in-Ok.answer _ _ c.in-Ok.ensures.ends (c.in-Ok.ensures.counted inputs)

-- the line of the answer was told, or couldn't be
pub returns-in-Err-clause-answered : goal.returns-in-Err-clause-answered
returns-in-Err-clause-answered g c = λ tree left known.
    told_answer c.args.teller (clone_due (teller_name c.args.teller) c.args.asked c.args.moment tree) c.in-Err.outcome c.tell_outcome.result _ _ left _ _ _ _ _ _
    (c.in-Err.ensures.untold tree left known) c.tell_outcome.ensures.told
    (λ risen. lines_risen c.in-Err.outcome _ _ _ _ _ _ _ (c.in-Err.ensures.counted 0) risen)

pub returns-in-Err-clause-counted : goal.returns-in-Err-clause-counted
returns-in-Err-clause-counted g c = λ inputs. told_counted c.args.teller c.in-Err.outcome c.tell_outcome.result _ _ _ _ _ _ _ _ _ c.tell_outcome.ensures.told (c.in-Err.ensures.counted inputs)
