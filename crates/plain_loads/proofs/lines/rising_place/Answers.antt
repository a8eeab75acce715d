use Rattle.plain_loads.proofs.lines.rising_place.Goals as goal

pub returns-then-rows_fit_rising-clause-fit : goal.returns-then-rows_fit_rising-clause-fit
returns-then-rows_fit_rising-clause-fit c = λ primary. c.rows_fit_rising.ensures.fit c.if-rows_fit_rising.true primary
