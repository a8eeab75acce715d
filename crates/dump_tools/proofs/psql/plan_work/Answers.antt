use Rattle.dump_tools.proofs.psql.plan_work.Goals as goal

pub returns-in-Ok-clause-taken : goal.returns-in-Ok-clause-taken
returns-in-Ok-clause-taken c = c.work_of.ensures.taken c.args.statements.now c.in-Ok.ensures.taken
