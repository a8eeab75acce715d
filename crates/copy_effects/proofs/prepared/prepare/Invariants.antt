-- The lines so far read as these rows.
use Rattle.std.proofs.Common.{◌≡◌, ◌+◌, ◌≤◌, ◌++◌, map, length, Ok}
use Rattle.data_rows.specs.Rows.{read_lines}
use Rattle.copy_effects.proofs.prepared.prepare.Given as goal

abbrev pub invariant-lines : goal.invariant-lines
invariant-lines l = (read_lines l.text ≡ map Ok l.rows.items ++ read_lines l.rest) × (length l.rows.items + length l.rest ≤ length l.text)

abbrev pub decreases-lines : goal.decreases-lines
decreases-lines l = length l.rest
