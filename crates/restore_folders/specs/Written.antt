-- What a restore writes: the folder that stands for what it leaves, once it has ended; a restore that is undone where it
-- stops writes nothing then.
use Rattle.std.specs.Prelude.{◌≡◌, Bool, true, false, List, [], Option, Some, None}
use Rattle.dump_ports.specs.Tree.{Tree}
use Rattle.cat_rows.specs.declared.catalogue.Catalogue.{Catalogue}
use Rattle.cat_model.specs.Values.{Bytes, Named}
use Rattle.saved_folders.specs.Exports.{WithTexts}
use Rattle.saved_folders.specs.Files.{File, saved}
use Rattle.saved_folders.specs.Folders.{files_of}
use Rattle.script_runs.specs.Writing.{StandFor}
use Rattle.restore_runs.specs.Endings.{Ending}
use Rattle.restore_runs.specs.Reports.{Stopping}
use Rattle.restore_folders.specs.declared.refusal.OnRefusal.{OnRefusal}
use Rattle.restore_folders.specs.declared.refusal.OnRefusal.TheVariants.{GoOn, Stop, Undo}

-- the folder is written
abbrev pub is_written : OnRefusal → Option Stopping → Bool
is_written Undo (Some stop) = false
is_written how stopped = true

-- the texts of a folder that stands for what an opening became, where it is written
abbrev pub Leaves : Catalogue → Bool → Named → Option WithTexts → Type 0
Leaves opening written named (Some made) = (written ≡ true) × StandFor opening named made
Leaves opening written named None = written ≡ false

-- the texts that a restore on an opening writes
abbrev pub LeavesEnding : Catalogue → OnRefusal → Ending → Option WithTexts → Type 0
LeavesEnding opening how ending texts = Leaves opening (is_written how ending.stopped) ending.left texts

-- the files that are written, in order
abbrev pub files_written : Bytes → Option WithTexts → List File
files_written folder None = []
files_written folder (Some made) = files_of folder made.texts

-- the tree once they are
abbrev pub tree_after : Bytes → Option WithTexts → Tree → Tree
tree_after folder texts tree = saved (files_written folder texts) tree
