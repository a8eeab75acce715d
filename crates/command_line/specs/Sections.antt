-- Which sections are taken.
use Rattle.std.specs.Prelude.{Bool, true, false, List, [], ◌∷◌}
use Rattle.std.specs.List.{list_any}
use Rattle.command_line.specs.declared.values.Section.{Section}
use Rattle.command_line.specs.declared.values.Section.TheVariants.{PreData, Data, PostData}

abbrev pub is_same : Section → Section → Bool
is_same PreData PreData = true
is_same Data Data = true
is_same PostData PostData = true
is_same _ _ = false

abbrev pub is_among : Section → List Section → Bool
is_among section sections = list_any (is_same section) sections

-- it is among those that were named; where none was, all are taken
abbrev pub is_chosen : Section → List Section → Bool
is_chosen section [] = true
is_chosen section (first ∷ others) = is_among section (first ∷ others)
