use Rattle.std.proofs.Common.{ℕ, ℤ, ◌<◌, slice_index_or}
use Rattle.dump_ports.specs.Moment.{IsPart}
use Rattle.dump_ports.proofs.moment.Moment.new.Given as goal

abbrev pub invariant-loop-part : goal.invariant-loop-part
invariant-loop-part l = (k : ℕ) (d : ℤ) → k < l.part-index → IsPart (slice_index_or l.fn.parts k d)
