use Rattle.std.proofs.Common.{◌≡◌, ℕ, List, [], true, length}
use Rattle.plain_rows.specs.Lines.{AreUpTo, line_keys, none_again}
use Rattle.plain_rows.proofs.keys.read_keys_rise.Given as goal

abbrev pub invariant-lines : goal.invariant-lines
invariant-lines l = (known : List (List ℕ)) × AreUpTo l.last known × (none_again known (line_keys l.columns l.place l.rest) ≡ true → none_again [] (line_keys l.columns l.place l.text) ≡ true)

abbrev pub decreases-lines : goal.decreases-lines
decreases-lines l = length l.rest
