-- What a plain dump writes: a script, of which the rows of entries come from data files. A row that fails ends it on its way.
use Rattle.std.specs.Prelude.{ℕ, ◌+◌, Bool, true, false, List, [], ◌∷◌, ◌++◌, Option, Some, None}
use Rattle.dump_ports.specs.Tree.{Tree, bytes_at}
use Rattle.data_rows.specs.declared.fault.RowsFault.{RowsFault}
use Rattle.toc_entry.specs.declared.entry.Entry.{Entry}
use Rattle.toc_entry.specs.declared.head.Head.{Head}
use Rattle.fmt_text.specs.Parts.{part}
use Rattle.fmt_text.specs.Script.{script_head, script_end}
use Rattle.dump_files.specs.declared.file.DataFile.{DataFile}
use Rattle.dump_files.specs.Spelled.{Spelled, spelled}

-- a row that fails, and the oid of its table
pub record BadRow : Type 0 where
  pub table : ℕ
  pub first : RowsFault

-- what is written, how many rows are in it, and the row that ends it on its way, if there is one
pub record Output : Type 0 where
  pub text : List ℕ
  pub rows : ℕ
  pub bad : Option BadRow

abbrev pub of_text : List ℕ → Output
of_text text = record { text = text; rows = 0; bad = None }

-- a text with so many rows in front
abbrev pub after : List ℕ → ℕ → Output → Output
after text rows more = record { text = text ++ more.text; rows = rows + more.rows; bad = more.bad }

abbrev pub rows_by : ℕ → Spelled → Option RowsFault → Output → Output
rows_by table rows None more = after rows.text rows.rows more
rows_by table rows (Some first) more = record { text = rows.text; rows = rows.rows; bad = Some (record { table = table; first = first }) }

-- the rows of a table in front; where one fails, nothing is behind them
unfoldable pub rows_then : ℕ → Spelled → Output → Output
rows_then table rows more = rows_by table rows rows.fault more

-- the rows of a data file of a tree
abbrev pub file_rows : Tree → DataFile → Spelled
file_rows tree file = spelled file.columns (bytes_at tree file.name)

-- the rows of the next data file, behind the part of an entry that has rows
abbrev pub with_rows : Tree → Bool → List DataFile → (List DataFile → Output) → Output
with_rows tree false needed more = more needed
with_rows tree true [] more = more []
with_rows tree true (file ∷ needed) more = rows_then file.table (file_rows tree file) (more needed)

-- the parts of entries, and what comes behind them; each entry with rows has the next of the data files
unfoldable pub parts_out : Tree → Bool → Output → List Entry → List DataFile → Output
parts_out tree owners end [] needed = end
parts_out tree owners end (e ∷ es) needed = after (part owners e None) 0 (with_rows tree e.has_rows needed (parts_out tree owners end es))

-- the whole dump
unfoldable pub plain_out : Tree → Head → Bool → List Entry → List DataFile → Output
plain_out tree head owners entries needed = after (script_head head) 0 (parts_out tree owners (of_text script_end) entries needed)
