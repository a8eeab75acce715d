use Rattle.std.proofs.Common.{Result, sym, subst, ◌∙◌}
use Rattle.tool_words.specs.declared.outcome.Outcome.{Outcome}
use Rattle.tool_words.specs.Answers.{Gives}
use Rattle.dump_tools.specs.Due.{Plan}
use Rattle.dump_tools.specs.Works.{plan_of_work}
use Rattle.dump_tools.proofs.Printed.{catalogue_read}
use Rattle.dump_tools.proofs.dumps.dump_work.Goals as goal

-- what is due of the catalogue is due of the folder
pub returns-clause-due : goal.returns-clause-due
returns-clause-due g c = λ tree known.
    subst (λ (due : Result Plan Outcome). Gives (plan_of_work tree) c.chosen_work-work.result due)
    (sym (catalogue_read c.args.asked c.args.moment tree c.in_ok-cat.cat (c.in_ok-cat.ensures.due tree known)))
    (c.chosen_work-work.ensures.due tree (c.in_ok-cat.ensures.kept ∙ known))
