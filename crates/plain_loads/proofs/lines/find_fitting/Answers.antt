use Rattle.plain_loads.proofs.lines.find_fitting.Goals as goal

pub returns-in-Some-clause-fit : goal.returns-in-Some-clause-fit
returns-in-Some-clause-fit c = c.in-Some.ensures.fit c.args.primary.now
