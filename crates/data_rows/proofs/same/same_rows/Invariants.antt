use Rattle.std.proofs.Common.{◌≡◌, ◌↔◌, length}
use Rattle.data_rows.specs.Rows.{read_lines}
use Rattle.data_rows.proofs.same.same_rows.Given as goal

abbrev pub invariant-loop-line : goal.invariant-loop-line
invariant-loop-line l = (read_lines l.a ≡ read_lines l.b) ↔ (read_lines l.rest ≡ read_lines l.other_rest)

abbrev pub decreases-loop-line : goal.decreases-loop-line
decreases-loop-line l = length l.rest
