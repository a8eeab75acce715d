-- The lines so far fit, and their keys are in the set with those that were there before.
use Rattle.std.proofs.Common.{◌≡◌, ◌++◌, ℕ, List, Option, length}
use Rattle.std.specs.List.{AllByRecursion}
use Rattle.copy_text.specs.Lines.{data_lines}
use Rattle.line_fields.specs.Clear.{IsClearText}
use Rattle.plain_rows.specs.Lines.{LineFits, line_keys}
use Rattle.plain_rows.specs.Parts.{AreApart}
use Rattle.plain_rows.proofs.parts.part_fits.Given as goal

abbrev pub invariant-lines : goal.invariant-lines
invariant-lines l = record {
  clear : IsClearText l.part → IsClearText l.rest;
  fit : IsClearText l.part → (primary : List (List ℕ)) → AllByRecursion (LineFits l.columns primary) (data_lines l.rest) → AllByRecursion (LineFits l.columns primary) (data_lines l.part);
  apart : IsClearText l.part → (front : List (Option (List ℕ))) × (line_keys l.columns l.place l.part ≡ front ++ line_keys l.columns l.place l.rest)
      × ((before : List (Option (List ℕ))) → AreApart before l.fn.keys → AreApart (before ++ front) l.keys);
}

abbrev pub decreases-lines : goal.decreases-lines
decreases-lines l = length l.rest
