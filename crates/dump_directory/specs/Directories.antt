-- What a dump in the directory format writes: `toc.dat`, and then a file for each entry with rows, of which the rows come from
-- the next of the data files. A row that fails ends it on its way.
use Rattle.std.specs.Prelude.{◌≡◌, ◌≢◌, ℕ, ◌+◌, Bool, true, false, List, [], ◌∷◌, ◌++◌, map, Option, Some, None}
use Rattle.dump_ports.specs.Tree.{Tree}
use Rattle.data_rows.specs.declared.fault.RowsFault.{RowsFault}
use Rattle.toc_entry.specs.declared.entry.Entry.{Entry}
use Rattle.toc_entry.specs.declared.head.Head.{Head}
use Rattle.toc_layout.specs.Heads.{head_seen, head as head_part}
use Rattle.toc_table.specs.Writing.{toc_text}
use Rattle.archive_entries.specs.Extras.{filed}
use Rattle.fmt_directory.specs.Directories.{toc_name, rows_name}
use Rattle.dump_files.specs.declared.file.DataFile.{DataFile}
use Rattle.dump_files.specs.Spelled.{Spelled}
use Rattle.dump_files.specs.Outlets.{Outside}
use Rattle.dump_plain.specs.Dumps.{BadRow, Output, file_rows}
use Rattle.dump_plain.specs.Stops.{HasLarge}
use Rattle.dump_directory.specs.Files.{Written, saved, IsBeyond, AreBeyond}

-- the files in order, how many rows are in them, and the row that ends it on its way, if there is one
pub record Folder : Type 0 where
  pub files : List Written
  pub rows : ℕ
  pub bad : Option BadRow

-- files with so many rows in front
abbrev pub after : List Written → ℕ → Folder → Folder
after files rows more = record { files = files ++ more.files; rows = rows + more.rows; bad = more.bad }

abbrev pub no_file : Folder
no_file = record { files = []; rows = 0; bad = None }

abbrev pub one_file : List ℕ → List ℕ → List Written
one_file name text = record { name = name; text = text } ∷ []

abbrev pub rows_by : List ℕ → ℕ → Spelled → Option RowsFault → Folder → Folder
rows_by name table rows None more = after (one_file name rows.text) rows.rows more
rows_by name table rows (Some first) more = record { files = one_file name rows.text; rows = rows.rows; bad = Some (record { table = table; first = first }) }

-- the file of a table's rows in front; where one fails, no file is behind it
unfoldable pub rows_then : List ℕ → ℕ → Spelled → Folder → Folder
rows_then name table rows more = rows_by name table rows rows.fault more

-- the file of the next data file's rows, for an entry that has rows
abbrev pub with_file : Tree → List ℕ → ℕ → Bool → List DataFile → (List DataFile → Folder) → Folder
with_file tree folder id false needed more = more needed
with_file tree folder id true [] more = more []
with_file tree folder id true (file ∷ needed) more = rows_then (rows_name folder id) file.table (file_rows tree file) (more needed)

unfoldable pub data_out : Tree → List ℕ → List Entry → List DataFile → Folder
data_out tree folder [] needed = no_file
data_out tree folder (e ∷ es) needed = with_file tree folder e.dump_id e.has_rows needed (data_out tree folder es)

abbrev pub toc_dat : Head → List Entry → List ℕ
toc_dat head entries = head_part.write (head_seen head) ++ toc_text entries

-- the whole dump, with entries that tell the files of their rows
unfoldable pub directory_out : Tree → List ℕ → Head → List Entry → List DataFile → Folder
directory_out tree folder head entries needed = after (one_file (toc_name folder) (toc_dat head (map filed entries))) 0 (data_out tree folder entries needed)

-- what is told of a row that fails
abbrev pub told : Folder → Output
told due = record { text = []; rows = due.rows; bad = due.bad }

-- ---- on the way

abbrev pub AllApart : List Written → List ℕ → Type 0
AllApart [] name = Unit {0}
AllApart (file ∷ files) name = (file.name ≢ name) × AllApart files name

-- What was due is these files with so many rows, which are whole and of the folder, and then what is due still.
pub record Saves (folder : List ℕ) (due : Folder) (before now : Outside) (rows : ℕ) (still : Folder) : Type 0 where
  pub done : List Written
  pub is : now ≡ saved done before
  pub same : due ≡ after done rows still
  pub apart : (name : List ℕ) → IsBeyond folder name → AllApart done name

abbrev pub IsLeft : Tree → List ℕ → List DataFile → List DataFile → Type 0
IsLeft tree folder needed left = (AreBeyond folder needed → AreBeyond folder left) × (HasLarge tree left → HasLarge tree needed)
