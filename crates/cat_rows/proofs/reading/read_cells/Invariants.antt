use Rattle.std.proofs.Common.{◌≡◌, length, drop}
use Rattle.cat_rows.specs.Reading.{cells_at}
use Rattle.cat_rows.proofs.FrontLemmas.{with_front}
use Rattle.cat_rows.proofs.reading.read_cells.Given as goal

abbrev pub invariant-loop-kind : goal.invariant-loop-kind
invariant-loop-kind g l = (length l.cells.items ≡ l.kind-index) × (cells_at l.spec.columns l.initial.columns ≡ with_front l.cells.items (cells_at (drop l.kind-index l.spec.columns) l.columns))
