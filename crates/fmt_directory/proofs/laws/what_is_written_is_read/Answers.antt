use Rattle.fmt_directory.proofs.Written.{written_toc_dat}
use Rattle.fmt_directory.proofs.laws.what_is_written_is_read.Goals as goal

pub returns : goal.returns
returns c = written_toc_dat
