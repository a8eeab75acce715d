use Rattle.std.proofs.lemmas.Result.{on_err_weaker}
use Rattle.saved_folders.specs.Folders.{file_in}
use Rattle.saved_folders.proofs.Saved.{ended_alone}
use Rattle.saved_folders.proofs.writing.write_in.Goals as goal

pub returns-clause-err : goal.returns-clause-err
returns-clause-err g c =
    on_err_weaker c.write_file.result (ended_alone (file_in c.args.folder.now c.args.file c.args.text.now) _ _) (rw c.in_ok-name.ensures at c.write_file.ensures.err)
