use Rattle.restore_board.proofs.Stepped.{one-ran}
use Rattle.restore_board.proofs.stepping.run_step.Goals as goal

pub returns-in_ok-run_statement-in-Some-clause-ran : goal.returns-in_ok-run_statement-in-Some-clause-ran
returns-in_ok-run_statement-in-Some-clause-ran c = λ x e.
    let said = c.in_ok-run_statement-in-Some.ensures in
    one-ran c.args.engine.now.boot c.args.engine.now.named c.run_statement.new.engine.named x c.args.run c.in-Some.next c.args.id c.args.entry c.args.step.now c.args.notes.now c.run_statement.new.notes c.args.refused.now.items c.run_statement.new.refused.items e said.applied c.in-Some.ensures.1 said.noted c.requires.none said.ending
