-- What is put out of a dump in each format, up to the first row that fails, if there is one.
use Rattle.std.specs.Prelude.{ℕ, List, [], ◌∷◌, map, Option, Some, None}
use Rattle.dump_ports.specs.Tree.{Tree}
use Rattle.toc_entry.specs.declared.entry.Entry.{Entry}
use Rattle.toc_entry.specs.declared.head.Head.{Head}
use Rattle.dump_files.specs.declared.file.DataFile.{DataFile}
use Rattle.dump_files.specs.declared.stop.DumpStop.{DumpStop}
use Rattle.dump_plain.specs.Dumps.{BadRow, Output, plain_out}
use Rattle.dump_plain.specs.Stops.{AreApart, IsDumpStop}
use Rattle.dump_archives.specs.Customs.{unplaced_out, custom_front}
use Rattle.dump_directory.specs.Files.{Written, AreBeyond}
use Rattle.dump_directory.specs.Directories.{directory_out}
use Rattle.dump_outputs.specs.Pieces.{Stored, Patched, place_of, Piece}
use Rattle.dump_outputs.specs.declared.form.DumpForm.{DumpForm}
use Rattle.dump_outputs.specs.declared.form.DumpForm.TheVariants.{Script, Custom, Directory}

-- texts that are put out one after another, up to the first row that fails, if there is one
pub record Putting : Type 0 where
  pub pieces : List Piece
  pub bad : Option BadRow

-- one text
abbrev pub one_piece : Option (List ℕ) → List ℕ → Option BadRow → Putting
one_piece target text bad = record { pieces = record { place = place_of target; text = text } ∷ []; bad = bad }

abbrev pub script_put : Option (List ℕ) → Output → Putting
script_put target due = one_piece target due.text due.bad

-- A custom archive in a file tells the places of its blocks over its first bytes, once all else is written. On standard output
-- it tells none, and nowhere where a row fails.
abbrev pub places_put : Option BadRow → Option (List ℕ) → List ℕ → List Piece
places_put (Some bad) target front = []
places_put None None front = []
places_put None (Some name) front = record { place = Patched name; text = front } ∷ []

abbrev pub custom_put : Option (List ℕ) → Output → List ℕ → Putting
custom_put target due front = record { pieces = record { place = place_of target; text = due.text } ∷ places_put due.bad target front; bad = due.bad }

abbrev pub stored : Written → Piece
stored file = record { place = Stored file.name; text = file.text }

-- the dump with this head
unfoldable pub dump_put : Tree → DumpForm → Head → List Entry → List DataFile → Putting
dump_put tree (Script target owners) head entries needed = script_put target (plain_out tree head owners entries needed)
dump_put tree (Custom target) head entries needed = custom_put target (unplaced_out tree head entries needed) (custom_front tree head entries needed)
dump_put tree (Directory folder) head entries needed = let due = directory_out tree folder head entries needed in record { pieces = map stored due.files; bad = due.bad }

-- no file that is written is one of those that are read
unfoldable pub IsClear : DumpForm → List DataFile → Type 0
IsClear (Script target owners) needed = AreApart target needed
IsClear (Custom target) needed = AreApart target needed
IsClear (Directory folder) needed = AreBeyond folder needed

-- why it wasn't written to its end, where this row is the first that fails
abbrev pub IsStop : Tree → List DataFile → Option BadRow → DumpStop → Type 0
IsStop tree needed bad stop = IsDumpStop tree needed (record { text = []; rows = 0; bad = bad }) stop
