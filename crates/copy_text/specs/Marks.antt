-- The bytes and the two words that COPY text gives a meaning to.
use Rattle.std.specs.Prelude.{ℕ, List, [], ◌∷◌}

abbrev pub tab : ℕ
tab = 9

abbrev pub newline : ℕ
newline = 10

abbrev pub carriage_return : ℕ
carriage_return = 13

abbrev pub backslash : ℕ
backslash = 92

-- the whole piece \N, which is null
abbrev pub null_mark : List ℕ
null_mark = backslash ∷ 78 ∷ []

-- the whole line \. which ends the rows
abbrev pub end_mark : List ℕ
end_mark = backslash ∷ 46 ∷ []
