use Rattle.std.proofs.lemmas.Result.{on_err_weaker}
use Rattle.tool_words.proofs.Lining.{always_err, part_of_first, part_of_second}
use Rattle.tool_words.proofs.telling.write_two.Goals as goal

pub returns-in_err-write_bytes-clause-err : goal.returns-in_err-write_bytes-clause-err
returns-in_err-write_bytes-clause-err g c = always_err c.from_residual.result (part_of_first c.args.one.now c.args.two.now _ _ c.in_err-write_bytes.ensures.err)

pub returns-clause-err : goal.returns-clause-err
returns-clause-err g c = on_err_weaker c.write_bytes-2.result (part_of_second c.args.one.now c.args.two.now _ _ _ c.in_ok-write_bytes.ensures.ok) c.write_bytes-2.ensures.err
