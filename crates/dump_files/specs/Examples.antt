-- The rows and texts of the worked examples.
use Rattle.std.specs.Prelude.{ℕ, List, codes}

-- two rows, of which the second one isn't in its one spelling, and what stands behind the end mark
abbrev pub two_rows : List ℕ
two_rows = codes "1\ta\n\\62\t\\N\n\\.\nrest"

abbrev pub two_rows_out : List ℕ
two_rows_out = codes "1\ta\n2\t\\N\n\\.\n\n\n"
