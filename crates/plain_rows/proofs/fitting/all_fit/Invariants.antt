use Rattle.std.proofs.Common.{◌≡◌, ℕ, List, length, map}
use Rattle.std.specs.List.{AllByRecursion}
use Rattle.copy_text.specs.Lines.{data_lines}
use Rattle.copy_text.specs.Texts.{IsText}
use Rattle.cat_model.specs.CopiedRows.{no_null}
use Rattle.plain_rows.specs.Lines.{LineFits}
use Rattle.plain_rows.proofs.fitting.all_fit.Given as goal

abbrev pub invariant-lines : goal.invariant-lines
invariant-lines l = record {
  texts : AllByRecursion IsText (data_lines l.rest);
  fit : (primary : List (List ℕ)) → l.required ≡ map (no_null primary) l.columns
      → AllByRecursion (LineFits l.columns primary) (data_lines l.rest) → AllByRecursion (LineFits l.columns primary) (data_lines l.text);
}

abbrev pub decreases-lines : goal.decreases-lines
decreases-lines l = length l.rest
