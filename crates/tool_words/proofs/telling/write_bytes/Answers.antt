use Rattle.std.proofs.lemmas.Result.{on_err_weaker}
use Rattle.tool_words.proofs.Lining.{part_taken}
use Rattle.tool_words.proofs.telling.write_bytes.Goals as goal

pub returns-clause-err : goal.returns-clause-err
returns-clause-err g c = on_err_weaker c.write_all.result (part_taken c.args.bytes.now _ _) c.write_all.ensures.err
