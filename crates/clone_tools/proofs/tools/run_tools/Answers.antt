use Rattle.std.proofs.Common.{refl, inr}
use Rattle.tool_words.specs.declared.outcome.Outcome.TheVariants.{Memory}
use Rattle.clone_tools.proofs.Telling.{memory_answered, memory_alone, told_counted}
use Rattle.clone_tools.proofs.tools.run_tools.Goals as goal

-- there was no memory for the words
pub returns-in-Err-clause-answered : goal.returns-in-Err-clause-answered
returns-in-Err-clause-answered g c = λ tree bytes known tells.
    memory_answered _ _ _ c.tell_outcome.result _ _ _ _ _ _ _ (rw (c.teller_of.ensures) at c.tell_outcome.ensures.told)

pub returns-in-Err-clause-complete : goal.returns-in-Err-clause-complete
returns-in-Err-clause-complete g c = λ tree bytes known tells none.
    inr (memory_alone c.teller_of.result c.tell_outcome.result _ _ _ _ _ _ _ _ _ c.tell_outcome.ensures.told refl none)

pub returns-in-Err-clause-counted : goal.returns-in-Err-clause-counted
returns-in-Err-clause-counted g c = told_counted c.teller_of.result Memory c.tell_outcome.result _ _ _ _ _ _ _ _ _ c.tell_outcome.ensures.told refl
