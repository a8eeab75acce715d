-- The set has only keys of the lines so far.
use Rattle.std.proofs.Common.{◌≡◌, ℕ, List, true, length}
use Rattle.std.specs.List.{list_any}
use Rattle.line_fields.specs.Clear.{IsClearText}
use Rattle.plain_rows.specs.Lines.{AreAmong, line_keys, same_some}
use Rattle.plain_rows.proofs.clear_keys.clear_key_set.Given as goal

abbrev pub invariant-lines : goal.invariant-lines
invariant-lines l = record {
  clear : IsClearText l.text → IsClearText l.rest;
  among : IsClearText l.text → AreAmong (line_keys l.columns l.place l.text) l.keys;
  left : IsClearText l.text → (q : List ℕ) → list_any (same_some q) (line_keys l.columns l.place l.rest) ≡ true → list_any (same_some q) (line_keys l.columns l.place l.text) ≡ true;
}

abbrev pub decreases-lines : goal.decreases-lines
decreases-lines l = length l.rest
