-- Lines of a script, and how a text shows in a comment.
-- A comment ends with its line, so line feeds and carriage returns of what it shows are spaces there.
use Rattle.std.specs.Prelude.{ℕ, Bool, ◌||◌, ◌==◌, List, [], ◌∷◌, ◌++◌, map, Option, Some, None, if◌then◌else◌, codes}
use Rattle.copy_text.specs.Marks.{newline}

-- a line of this text
abbrev pub line : List ℕ → List ℕ
line text = text ++ newline ∷ []

-- three comment lines, a text between two empty ones, and an empty line
abbrev pub title : List ℕ → List ℕ
title text = codes "--\n-- " ++ text ++ codes "\n--\n\n"

abbrev pub ends_line : ℕ → Bool
ends_line b = b == 10 || b == 13

-- a text as a comment shows it
abbrev pub shown : List ℕ → List ℕ
shown text = map (λ b. if ends_line b then 32 else b) text

-- a text that may not be there
abbrev pub shown_or_dash : Option (List ℕ) → List ℕ
shown_or_dash None = codes "-"
shown_or_dash (Some text) = shown text
