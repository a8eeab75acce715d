use Rattle.std.proofs.Common.{arith}
use Rattle.list_files.proofs.Standing.{lines_next}
use Rattle.list_files.proofs.list.put_lines_at.Goals as goal

pub loop-place-preserved : goal.loop-place-preserved
loop-place-preserved c =
    lines_next c.args.entries.now c.args.places.now c.loop-place.place-index c.args.out.now.items c.loop-place.out.items c.put_line_at.new.out.items (omega arith) c.loop-place.invariant c.in_ok-put_line_at.ensures
