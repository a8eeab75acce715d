-- A data file that is read piece by piece: what is still to be put out of it.
use Rattle.std.specs.Prelude.{◌≡◌, ℕ, ◌+◌, Bool, false, List, [], ◌++◌, drop, None, if◌then◌else◌}
use Rattle.data_rows.specs.Rows.{read_lines}
use Rattle.dump_files.specs.Spelled.{Spelled, spelled_from}

-- how many rows are out, the place from which the file is read on, what was read behind the last whole line, and whether
-- all is out
pub record Reading : Type 0 where
  pub rows : ℕ
  pub at : ℕ
  pub held : List ℕ
  pub over : Bool

-- nothing was read yet
abbrev pub begun : Reading
begun = record { rows = 0; at = 0; held = []; over = false }

abbrev pub nothing : Spelled
nothing = record { text = []; rows = 0; fault = None }

-- what is to come of a text behind so many rows
unfoldable pub coming : ℕ → ℕ → Bool → List ℕ → Spelled
coming columns rows over text = if over then nothing else spelled_from columns (rows + 1) (read_lines text)

-- what is out, and what is to come behind it
abbrev pub behind : List ℕ → ℕ → Spelled → Spelled
behind out rows more = record { text = out ++ more.text; rows = rows + more.rows; fault = more.fault }

-- what is still to come of a file with this text
abbrev pub to_come : ℕ → Reading → List ℕ → Spelled
to_come columns r text = coming columns r.rows r.over (r.held ++ drop r.at text)

-- the front of a text, up to this rest, comes out as it stands, and then so many rows are out
pub record IsOwnRun (columns rows : ℕ) (text rest : List ℕ) (count : ℕ) : Type 0 where
  pub front : List ℕ
  pub parts : text ≡ front ++ rest
  pub as_it_stands : (out more : List ℕ) → behind out rows (coming columns rows false (text ++ more)) ≡ behind (out ++ front) count (coming columns count false (rest ++ more))
