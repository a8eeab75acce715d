use Rattle.dump_tools.proofs.printing.end_dump.Goals as goal

pub returns-in_default-clause-ok : goal.returns-in_default-clause-ok
returns-in_default-clause-ok g c = rw (c.stop_outcome.ensures) at c.tell_end.ensures.ok
