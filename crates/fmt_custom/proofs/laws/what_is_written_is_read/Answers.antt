use Rattle.fmt_custom.proofs.Written.{written_custom, written_rows}
use Rattle.fmt_custom.proofs.laws.what_is_written_is_read.Goals as goal

pub returns : goal.returns
returns c = record {
  read = written_custom;
  rows = written_rows;
}
