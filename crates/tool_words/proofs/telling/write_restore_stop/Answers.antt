use Rattle.std.specs.Prelude.{decimal, codes}
use Rattle.std.proofs.lemmas.Result.{on_ok_weaker, on_err_weaker}
use Rattle.tool_words.specs.Messages.{cause_text}
use Rattle.tool_words.proofs.Lining.{always_err, part_of_two, part_of_four, takes_four}
use Rattle.tool_words.proofs.telling.write_restore_stop.Goals as goal

pub returns-in_err-write_counted-clause-err : goal.returns-in_err-write_counted-clause-err
returns-in_err-write_counted-clause-err g c = always_err c.from_residual.result (part_of_two (codes "stopped at entry ") (decimal c.args.stop.now.0) (codes ": ") (cause_text c.args.stop.now.1) _ _ (rw c.entry.ensures at c.in_err-write_counted.ensures.err))

pub returns-clause-ok : goal.returns-clause-ok
returns-clause-ok g c = on_ok_weaker c.write_two.result (takes_four (codes "stopped at entry ") (decimal c.args.stop.now.0) (codes ": ") (cause_text c.args.stop.now.1) _ _ _ (rw c.entry.ensures at c.in_ok-write_counted.ensures.ok)) (rw c.text.ensures at c.write_two.ensures.ok)

pub returns-clause-err : goal.returns-clause-err
returns-clause-err g c = on_err_weaker c.write_two.result (part_of_four (codes "stopped at entry ") (decimal c.args.stop.now.0) (codes ": ") (cause_text c.args.stop.now.1) _ _ _ (rw c.entry.ensures at c.in_ok-write_counted.ensures.ok)) (rw c.text.ensures at c.write_two.ensures.err)
