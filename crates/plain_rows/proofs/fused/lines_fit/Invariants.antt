-- The lines so far fit, and their keys rise up to the last one.
use Rattle.std.proofs.Common.{◌≡◌, ℕ, List, [], true, length}
use Rattle.std.specs.List.{AllByRecursion}
use Rattle.copy_text.specs.Lines.{data_lines}
use Rattle.line_fields.specs.Clear.{IsClearText}
use Rattle.plain_rows.specs.Lines.{AreUpTo, LineFits, line_keys, none_again}
use Rattle.plain_rows.proofs.fused.lines_fit.Given as goal

abbrev pub invariant-lines : goal.invariant-lines
invariant-lines l = record {
  clear : IsClearText l.text → IsClearText l.rest;
  fit : IsClearText l.text → (primary : List (List ℕ)) → AllByRecursion (LineFits l.columns primary) (data_lines l.rest) → AllByRecursion (LineFits l.columns primary) (data_lines l.text);
  rise : IsClearText l.text → (known : List (List ℕ)) × AreUpTo l.last known × (none_again known (line_keys l.columns l.place l.rest) ≡ true → none_again [] (line_keys l.columns l.place l.text) ≡ true);
}

abbrev pub decreases-lines : goal.decreases-lines
decreases-lines l = length l.rest
