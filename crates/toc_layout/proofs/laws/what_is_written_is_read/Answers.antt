use Rattle.toc_layout.proofs.Fitting.{written_entry, written_head}
use Rattle.toc_layout.proofs.laws.what_is_written_is_read.Goals as goal

pub returns : goal.returns
returns c = record {
  head = written_head;
  entry = written_entry;
}
