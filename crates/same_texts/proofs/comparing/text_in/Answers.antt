use Rattle.folder_io.specs.Folders.{file_of, file_text}
use Rattle.folder_io.proofs.Standing.{within_ok}
use Rattle.same_texts.proofs.comparing.text_in.Goals as goal

pub returns-in-Ok-clause-text : goal.returns-in-Ok-clause-text
unfolding file_text
returns-in-Ok-clause-text g c = λ tree known. (within_ok c.args.limit (file_of c.args.folder.now c.args.file) _ _ (c.in-Ok.ensures.due tree known)).0
