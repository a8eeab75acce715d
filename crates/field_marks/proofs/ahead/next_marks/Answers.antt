use Rattle.std.proofs.Common.{arith}
use Rattle.field_marks.proofs.Following.{block_passed}
use Rattle.field_marks.proofs.ahead.next_marks.Goals as goal

pub runs-preserved : goal.runs-preserved
runs-preserved c = record {
  within = omega arith;
  none = block_passed c.args.text.now c.runs.at c.marks_at-bits.result c.runs.invariant.none c.marks_at-bits.ensures (omega arith);
}
