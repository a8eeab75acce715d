use Rattle.std.proofs.Common.{◌≡◌, ℕ, List, Option, true, length}
use Rattle.plain_rows.specs.Lines.{line_keys, AreAmong, all_among}
use Rattle.plain_rows.proofs.keys.read_keys_are_among.Given as goal

abbrev pub invariant-lines : goal.invariant-lines
invariant-lines l = (all : List (Option (List ℕ))) → AreAmong all l.parents → all_among all (line_keys l.columns l.place l.rest) ≡ true → all_among all (line_keys l.columns l.place l.text) ≡ true

abbrev pub decreases-lines : goal.decreases-lines
decreases-lines l = length l.rest
