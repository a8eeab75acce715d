use Rattle.fmt_custom.proofs.Placed.{front_as_long, placed_fits, patched_custom}
use Rattle.fmt_custom.proofs.laws.what_is_patched_is_read.Goals as goal

pub returns : goal.returns
returns c = record {
  length = front_as_long;
  fits = placed_fits;
  read = patched_custom;
}
