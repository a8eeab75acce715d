use Rattle.plain_rows.proofs.fused.rows_fit_rising.Goals as goal

pub returns-then-is_clear_text-clause-fit : goal.returns-then-is_clear_text-clause-fit
returns-then-is_clear_text-clause-fit c = λ yes primary. c.lines_fit.ensures.fit yes (c.is_clear_text.ensures c.if-is_clear_text.true) primary
