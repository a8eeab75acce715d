use Rattle.std.specs.Prelude.{decimal, codes}
use Rattle.std.proofs.lemmas.Result.{on_ok_weaker, on_err_weaker}
use Rattle.folder_io.specs.Folders.{file_name}
use Rattle.tool_words.proofs.Lining.{always_err, part_of_two, part_of_four, takes_four}
use Rattle.tool_words.proofs.telling.write_place.Goals as goal

pub returns-in_err-write_file-clause-err : goal.returns-in_err-write_file-clause-err
returns-in_err-write_file-clause-err g c = always_err c.from_residual.result (part_of_two (codes "bad export ") (file_name c.args.file) (codes " line ") (decimal c.args.line) _ _ c.in_err-write_file.ensures.err)

pub returns-clause-ok : goal.returns-clause-ok
returns-clause-ok g c = on_ok_weaker c.write_line.result (takes_four (codes "bad export ") (file_name c.args.file) (codes " line ") (decimal c.args.line) _ _ _ c.in_ok-write_file.ensures.ok) c.write_line.ensures.ok

pub returns-clause-err : goal.returns-clause-err
returns-clause-err g c = on_err_weaker c.write_line.result (part_of_four (codes "bad export ") (file_name c.args.file) (codes " line ") (decimal c.args.line) _ _ _ c.in_ok-write_file.ensures.ok) c.write_line.ensures.err
