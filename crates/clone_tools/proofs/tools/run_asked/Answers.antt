use Rattle.std.proofs.Common.{sym, ◌∙◌}
use Rattle.clone_tools.proofs.Calls.{clone_answered, tool_answered, tool_ended_or}
use Rattle.clone_tools.proofs.Telling.{completed}
use Rattle.clone_tools.proofs.tools.run_asked.Goals as goal

-- a clone
pub returns-in-Some-clause-answered : goal.returns-in-Some-clause-answered
returns-in-Some-clause-answered g c = λ tree bytes known tells.
    clone_answered c.args.words.now c.args.moment tree bytes c.in-Some.asked c.run_clone.result _ _ _ _ (sym c.requires ∙ c.in-Some.is)
    (rw (c.teller_of.ensures) at (c.run_clone.ensures.answered tree (g.I.Source.left c.args.input.now) known))

pub returns-in-Some-clause-complete : goal.returns-in-Some-clause-complete
returns-in-Some-clause-complete g c = λ tree bytes known tells none.
    completed _ _ _ c.run_clone.result _ _ _ _ _ _ none (c.run_clone.ensures.counted _)
    (clone_answered c.args.words.now c.args.moment tree bytes c.in-Some.asked c.run_clone.result _ _ _ _ (sym c.requires ∙ c.in-Some.is)
    (rw (c.teller_of.ensures) at (c.run_clone.ensures.answered tree (g.I.Source.left c.args.input.now) known)))

pub returns-in-Some-clause-counted : goal.returns-in-Some-clause-counted
returns-in-Some-clause-counted g c = c.run_clone.ensures.counted _

-- its archive doesn't lie in the folder that is dumped
pub run_clone-requires : goal.run_clone-requires
run_clone-requires g c = record { source = c.a_clone_is_written_outside_of_its_folders.ensures.source c.args.words.now c.in-Some.asked (sym c.requires ∙ c.in-Some.is) }

-- another tool
pub returns-in-None-clause-answered : goal.returns-in-None-clause-answered
returns-in-None-clause-answered g c = λ tree bytes known tells.
    tool_answered c.run_tools.result c.args.words.now c.args.moment tree bytes _ _ _ _ (sym c.requires ∙ c.in-None.is) (c.run_tools.ensures.answered tree bytes known tells)

pub returns-in-None-clause-complete : goal.returns-in-None-clause-complete
returns-in-None-clause-complete g c = λ tree bytes known tells none.
    tool_ended_or c.args.words.now c.args.moment tree bytes c.run_tools.result _ _ (sym c.requires ∙ c.in-None.is) (c.run_tools.ensures.complete tree bytes known tells none)
