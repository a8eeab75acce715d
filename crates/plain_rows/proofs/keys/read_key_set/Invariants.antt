use Rattle.std.proofs.Common.{◌≡◌, ℕ, List, true, length}
use Rattle.std.specs.List.{AllByRecursion, list_any}
use Rattle.copy_text.specs.Lines.{data_lines}
use Rattle.copy_text.specs.Texts.{IsText}
use Rattle.plain_rows.specs.Lines.{line_keys, same_some, AreAmong}
use Rattle.plain_rows.proofs.keys.read_key_set.Given as goal

abbrev pub invariant-lines : goal.invariant-lines
invariant-lines l = record {
  texts : AllByRecursion IsText (data_lines l.rest);
  among : AreAmong (line_keys l.columns l.place l.text) l.keys;
  left : (q : List ℕ) → list_any (same_some q) (line_keys l.columns l.place l.rest) ≡ true → list_any (same_some q) (line_keys l.columns l.place l.text) ≡ true;
}

abbrev pub decreases-lines : goal.decreases-lines
decreases-lines l = length l.rest
