-- The keys of the lines so far rise up to the last one.
use Rattle.std.proofs.Common.{◌≡◌, ℕ, List, [], true, length}
use Rattle.line_fields.specs.Clear.{IsClearText}
use Rattle.plain_rows.specs.Lines.{AreUpTo, line_keys, none_again}
use Rattle.plain_rows.proofs.clear_keys.clear_keys_rise.Given as goal

abbrev pub invariant-lines : goal.invariant-lines
invariant-lines l = record {
  clear : IsClearText l.text → IsClearText l.rest;
  rise : IsClearText l.text → (known : List (List ℕ)) × AreUpTo l.last known × (none_again known (line_keys l.columns l.place l.rest) ≡ true → none_again [] (line_keys l.columns l.place l.text) ≡ true);
}

abbrev pub decreases-lines : goal.decreases-lines
decreases-lines l = length l.rest
