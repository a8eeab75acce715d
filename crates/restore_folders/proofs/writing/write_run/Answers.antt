use Rattle.restore_folders.proofs.Kept.{none_written}
use Rattle.restore_folders.proofs.writing.write_run.Goals as goal

pub returns-in-None-clause-ok : goal.returns-in-None-clause-ok
returns-in-None-clause-ok g c = rw c.in-None.is (none_written c.args.folder.now (g.F.Files.tree c.args.files.now))
