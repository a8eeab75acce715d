use Rattle.toc_table.proofs.Written.{written_toc}
use Rattle.toc_table.proofs.laws.what_is_written_is_read.Goals as goal

pub returns : goal.returns
returns c = written_toc
