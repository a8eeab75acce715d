-- A text whose lines are taken in parts.
use Rattle.std.specs.Prelude.{◌≡◌, true, List, [], ◌++◌, Option}
use Rattle.std.specs.List.{list_any}
use Rattle.copy_text.specs.Lines.{data_lines}
use Rattle.cat_model.specs.Values.{Bytes}
use Rattle.key_sets.specs.declared.key_set.KeySet.{KeySet}
use Rattle.key_sets.specs.Holding.{holds}
use Rattle.plain_rows.specs.Lines.{none_again, same_some}

-- the lines of a text that begins with this part are those of the part and of the rest
abbrev pub EndsLine : Bytes → Type 0
EndsLine part = (more : Bytes) → data_lines (part ++ more) ≡ data_lines part ++ data_lines more

-- the set has exactly these keys, of which none stands again
pub record AreApart (keys : List (Option Bytes)) (set : KeySet) : Type 0 where
  pub exact : (key : Bytes) → holds set key ≡ list_any (same_some key) keys
  pub apart : none_again [] keys ≡ true
