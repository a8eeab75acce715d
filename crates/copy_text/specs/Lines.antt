-- The lines of a text, and the rows of those before the first line \. or the end.
-- A line ends with a newline, which isn't part of it; the last line may lack it.
use Rattle.std.specs.Prelude.{◌≡◌, ◌≢◌, ℕ, ◌+◌, ◌<◌, ◌≤◌, min, List, [], ◌∷◌, length, take, drop, Result, Ok, Err, slice_range, ◌==◌, if◌then◌else◌}
use Rattle.std.specs.List.{AllZip, onto_first, position_or_len}
use Rattle.std.specs.Str.{bytes_eq}
use Rattle.copy_text.specs.declared.fault.CopyFault.{CopyFault}
use Rattle.copy_text.specs.declared.line.Line.{Line}
use Rattle.copy_text.specs.declared.line.Line.TheVariants.{Row, Stop, End}
use Rattle.copy_text.specs.Marks.{newline, end_mark}
use Rattle.copy_text.specs.Rows.{Field, SpellsRow}
use Rattle.copy_text.specs.Reading.{row_of}

unfoldable pub lines : List ℕ → List (List ℕ)
lines [] = []
lines (b ∷ rest) = if b == newline then [] ∷ lines rest else onto_first b (lines rest)

-- the lines before the first line \.
abbrev pub before_end_mark : List (List ℕ) → List (List ℕ)
before_end_mark [] = []
before_end_mark (line ∷ more) = if bytes_eq line end_mark then [] else line ∷ before_end_mark more

-- the lines of a text that hold rows
abbrev pub data_lines : List ℕ → List (List ℕ)
data_lines text = before_end_mark (lines text)

-- the text holds these rows, one a line
abbrev pub SpellsRows : List (List Field) → List ℕ → Type 0
SpellsRows rows text = AllZip SpellsRow rows (data_lines text)

-- a line's row before the rows of the lines behind it; the first fault counts
abbrev pub with_row : ℕ → Result (List Field) CopyFault → Result (List (List Field)) (ℕ × CopyFault) → Result (List (List Field)) (ℕ × CopyFault)
with_row n (Err f) rows = Err (n, f)
with_row n (Ok row) (Err fault) = Err fault
with_row n (Ok row) (Ok rows) = Ok (row ∷ rows)

-- the rows of lines, or the first line without a row, counted from n, and its fault
unfoldable pub rows_from : ℕ → List (List ℕ) → Result (List (List Field)) (ℕ × CopyFault)
rows_from n [] = Ok []
rows_from n (line ∷ more) = with_row n (row_of line) (rows_from (n + 1) more)

-- the rows that a text holds, or its first line without a row, counted from 1, and that line's fault
abbrev pub rows_of_text : List ℕ → Result (List (List Field)) (ℕ × CopyFault)
rows_of_text text = rows_from 1 (data_lines text)

-- ---- the line at a place

-- what stands in a text at a place that isn't past its end
unfoldable pub line_at : List ℕ → ℕ → Line
line_at text at =
    let rest = drop at text in
    let len = position_or_len (λ b. b == newline) rest in
    if at == length text then End
    else if bytes_eq (take len rest) end_mark then Stop
    else Row at (at + len) (min (at + len + 1) (length text))

-- the line is the next of the text's lines from this place on, and it is the end mark exactly where it says Stop
abbrev pub IsNextLine : List ℕ → ℕ → Line → Type 0
IsNextLine text at (Row start end next) =
    (start ≡ at) × (start ≤ end) × (end ≤ next) × (at < next) × (next ≤ length text)
    × (slice_range text start end ≢ end_mark) × (lines (drop at text) ≡ slice_range text start end ∷ lines (drop next text))
IsNextLine text at Stop = (more : List (List ℕ)) × (lines (drop at text) ≡ end_mark ∷ more)
IsNextLine text at End = (at ≡ length text) × (lines (drop at text) ≡ [])
