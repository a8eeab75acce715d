-- Each entry is taken once.
use Rattle.std.specs.Vec.Iter.{into_iter_len}
use Rattle.dump_cases.proofs.scripts.with_rows.Given as goal

abbrev pub decreases-entries : goal.decreases-entries
decreases-entries l = into_iter_len l.left
