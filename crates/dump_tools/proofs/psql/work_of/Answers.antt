use Rattle.dump_tools.proofs.psql.work_of.Goals as goal

-- a script that is run on an opening is so whatever its statements are
pub returns-in-None-clause-taken : goal.returns-in-None-clause-taken
returns-in-None-clause-taken c = λ statements schemas. c.export_work.ensures.taken statements
