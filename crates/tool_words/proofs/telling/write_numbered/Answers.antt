use Rattle.std.proofs.Common.{◌++◌}
use Rattle.std.specs.Prelude.{decimal}
use Rattle.std.proofs.lemmas.Result.{on_err_weaker}
use Rattle.tool_words.proofs.Lining.{always_err, takes_both, part_of_first, part_of_second}
use Rattle.tool_words.proofs.telling.write_numbered.Goals as goal

pub returns-in_err-write_bytes-clause-err : goal.returns-in_err-write_bytes-clause-err
returns-in_err-write_bytes-clause-err g c =
    always_err c.from_residual.result
    (part_of_first (c.args.before.now ++ decimal c.args.number) c.args.behind.now _ _ (part_of_first c.args.before.now (decimal c.args.number) _ _ c.in_err-write_bytes.ensures.err))

pub returns-in_err-write_number-clause-err : goal.returns-in_err-write_number-clause-err
returns-in_err-write_number-clause-err g c =
    always_err c.from_residual-in_err-write_number.result
    (part_of_first (c.args.before.now ++ decimal c.args.number) c.args.behind.now _ _ (part_of_second c.args.before.now (decimal c.args.number) _ _ _ c.in_ok-write_bytes.ensures.ok c.in_err-write_number.ensures.err))

pub returns-clause-err : goal.returns-clause-err
returns-clause-err g c =
    on_err_weaker c.write_bytes-2.result
    (part_of_second (c.args.before.now ++ decimal c.args.number) c.args.behind.now _ _ _ (takes_both _ _ _ c.args.before.now (decimal c.args.number) c.in_ok-write_bytes.ensures.ok c.in_ok-write_number.ensures.ok))
    c.write_bytes-2.ensures.err
