use Rattle.std.specs.Prelude.{codes}
use Rattle.std.proofs.lemmas.Result.{on_ok_weaker, on_err_weaker}
use Rattle.folder_io.specs.Folders.{file_name}
use Rattle.tool_words.proofs.Lining.{always_err, takes_both, part_of_first, part_of_second}
use Rattle.tool_words.proofs.telling.write_file.Goals as goal

pub returns-in_err-write_bytes-clause-err : goal.returns-in_err-write_bytes-clause-err
returns-in_err-write_bytes-clause-err g c = always_err c.from_residual.result (part_of_first (codes "bad export ") (file_name c.args.file) _ _ c.in_err-write_bytes.ensures.err)

pub returns-clause-ok : goal.returns-clause-ok
returns-clause-ok g c = on_ok_weaker c.write_name.result (takes_both _ _ _ (codes "bad export ") (file_name c.args.file) c.in_ok-write_bytes.ensures.ok) c.write_name.ensures.ok

pub returns-clause-err : goal.returns-clause-err
returns-clause-err g c = on_err_weaker c.write_name.result (part_of_second (codes "bad export ") (file_name c.args.file) _ _ _ c.in_ok-write_bytes.ensures.ok) c.write_name.ensures.err
