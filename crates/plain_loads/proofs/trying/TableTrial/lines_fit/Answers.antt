use Rattle.plain_loads.proofs.trying.TableTrial.lines_fit.Goals as goal

pub returns-in-Some-clause-fit : goal.returns-in-Some-clause-fit
returns-in-Some-clause-fit c = λ yes clear. c.part_fits.ensures.fit yes clear c.args.self.now.primary.now
