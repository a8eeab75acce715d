-- The rows and texts of the worked examples.
use Rattle.std.specs.Prelude.{ℕ, List, [], ◌∷◌, ◌++◌, Some, None, codes}
use Rattle.copy_text.specs.Marks.{tab, newline}
use Rattle.copy_text.specs.Rows.{Field}

-- a tab b newline c backslash; the two characters \N; the empty text; null
abbrev pub four_fields : List Field
four_fields = Some (97 ∷ tab ∷ 98 ∷ newline ∷ codes "c\\") ∷ Some (codes "\\N") ∷ Some [] ∷ None ∷ []

abbrev pub four_fields_line : List ℕ
four_fields_line = codes "a\\tb\\nc\\\\" ++ tab ∷ codes "\\\\N" ++ tab ∷ tab ∷ codes "\\N"

-- x and a newline, then the end mark and a newline
abbrev pub text_of_two_lines : List ℕ
text_of_two_lines = codes "x" ++ newline ∷ codes "\\." ++ newline ∷ []
