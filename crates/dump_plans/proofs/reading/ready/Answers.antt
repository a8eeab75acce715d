use Rattle.std.specs.Global.{Vec}
use Rattle.dump_files.specs.declared.file.DataFile.{DataFile}
use Rattle.dump_plans.proofs.Counts.{looking_counts}
use Rattle.dump_plans.proofs.reading.ready.Goals as goal

pub returns-in-Err-clause-read_count : goal.returns-in-Err-clause-read_count
returns-in-Err-clause-read_count g c = rw c.stop_outcome.ensures (looking_counts (Vec DataFile) (Unit {0}) c.in-Err.stop _ _ c.in-Err.ensures.looking c.in-Err.ensures.read_count)
