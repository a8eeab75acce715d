-- The rows that a text in COPY text format holds, whatever the number of their columns, and their one spelling.
use Rattle.std.specs.Prelude.{◌≡◌, ℕ, List}
use Rattle.std.specs.List.{All, filter_map}
use Rattle.std.specs.Result.{result_ok}
use Rattle.copy_text.specs.Rows.{Field, IsRow, spell_rows}
use Rattle.data_rows.specs.Rows.{read_lines}

-- the rows that the lines of a text read as; a line that is no row counts for nothing
abbrev pub rows_held : List ℕ → List (List Field)
rows_held text = filter_map result_ok (read_lines text)

-- the text is what is written for the rows that it holds
pub record IsSpelled (text : List ℕ) : Type 0 where
  pub rows : All IsRow (rows_held text)
  pub spelled : spell_rows (rows_held text) ≡ text
