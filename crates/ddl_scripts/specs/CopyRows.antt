-- The rows of a COPY, which are lines and no tokens.
-- They begin behind the first line feed behind its semicolon, with only spaces, tabs and carriage returns between, and
-- go on up to the line \. or the end of the text.
use Rattle.std.specs.{Prelude.◌≡◌, Prelude.ℕ, Prelude.◌+◌, Prelude.Bool, Prelude.◌||◌, Prelude.◌==◌, Prelude.min, Prelude.List, Prelude.[], Prelude.◌∷◌, Prelude.length, Prelude.drop, Prelude.Result, Prelude.Ok, Prelude.Err, Prelude.⊤, Prelude.if◌then◌else◌, List.prefix_len}
use Rattle.copy_text.specs.Marks.{newline}
use Rattle.ddl_scripts.specs.{declared.copy_rows.Rows.Rows, declared.copy_rows.RowsError.RowsError}
use Rattle.ddl_scripts.specs.declared.copy_rows.RowsError.TheVariants as errors
use Rattle.ddl_grammar.specs.Rows.{rows_in}

-- a space, a tab or a carriage return
unfoldable pub is_between : ℕ → Bool
is_between b = b == 32 || (b == 9 || b == 13)

-- rows, and the place behind them and behind the line that ends them
pub record Copied : Type 0 where
  pub rows : List ℕ
  pub end : ℕ

-- the last line is a backslash, a dot and a line feed, as far as the text goes
abbrev pub copied : List ℕ → ℕ → List ℕ → Copied
copied text from rows = record { rows = rows; end = min (from + length rows + 3) (length text) }

-- the rows that begin at a place of a text
unfoldable pub rows_from : List ℕ → ℕ → Copied
rows_from text from = copied text from (rows_in (drop from text))

-- what stands behind the semicolon and the blanks behind it: nothing, or a line feed, or another byte, whose place is
-- the fault
abbrev pub rows_by : List ℕ → ℕ → List ℕ → Result Copied ℕ
rows_by text at [] = Ok (record { rows = []; end = at })
rows_by text at (b ∷ rest) = if b == newline then Ok (rows_from text (at + 1)) else Err at

unfoldable pub rows_at : List ℕ → ℕ → Result Copied ℕ
rows_at text at = rows_by text at (drop at text)

-- the rows behind the semicolon that ends at a place, or the place where they should begin and don't
unfoldable pub rows_behind : List ℕ → ℕ → Result Copied ℕ
rows_behind text at = rows_at text (at + prefix_len is_between (drop at text))

-- ---- what the code answers

abbrev pub seen : Rows → Copied
seen r = record { rows = r.rows.items; end = r.end }

abbrev pub Gives : Result Rows RowsError → Result Copied ℕ → Type 0
Gives (Ok r) given = given ≡ Ok (seen r)
Gives (Err errors.Memory) given = ⊤
Gives (Err (errors.Unknown at)) given = given ≡ Err at
