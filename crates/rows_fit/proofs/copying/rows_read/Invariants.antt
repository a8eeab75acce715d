-- The rows of the lines so far stand before those of the lines that are left.
use Rattle.std.proofs.Common.{◌≡◌, ◌+◌, ◌≤◌, ℕ, List, length}
use Rattle.std.specs.Option.{option_map}
use Rattle.copy_text.specs.Lines.{data_lines}
use Rattle.cat_model.specs.CopiedRows.{rows_read}
use Rattle.rows_fit.specs.Plans.{Stands}
use Rattle.rows_fit.proofs.Reading.{before}
use Rattle.rows_fit.proofs.copying.rows_read.Given as goal

abbrev pub invariant-loop-line : goal.invariant-loop-line
invariant-loop-line l =
    ((names primary : List (List ℕ)) → Stands l.columns names primary (option_map (λ o. o.items) l.order) l.required
    → rows_read l.columns names primary 1 (data_lines l.text) ≡ before l.rows.items (rows_read l.columns names primary (l.number + 1) (data_lines l.rest))
    ) × (l.number + length l.rest ≤ length l.text)

abbrev pub decreases-loop-line : goal.decreases-loop-line
decreases-loop-line l = length l.rest
