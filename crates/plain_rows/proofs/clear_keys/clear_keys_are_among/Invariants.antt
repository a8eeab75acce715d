-- The keys of the lines so far are among these.
use Rattle.std.proofs.Common.{◌≡◌, ℕ, List, Option, true, length}
use Rattle.line_fields.specs.Clear.{IsClearText}
use Rattle.plain_rows.specs.Lines.{AreAmong, all_among, line_keys}
use Rattle.plain_rows.proofs.clear_keys.clear_keys_are_among.Given as goal

abbrev pub invariant-lines : goal.invariant-lines
invariant-lines l = record {
  clear : IsClearText l.text → IsClearText l.rest;
  among : IsClearText l.text → (all : List (Option (List ℕ))) → AreAmong all l.parents → all_among all (line_keys l.columns l.place l.rest) ≡ true → all_among all (line_keys l.columns l.place l.text) ≡ true;
}

abbrev pub decreases-lines : goal.decreases-lines
decreases-lines l = length l.rest
