-- Why a plain dump wasn't written to its end.
use Rattle.std.specs.Prelude.{◌≡◌, ℕ, ◌+◌, ◌<◌, ◌⊎◌, List, [], ◌∷◌, ◌++◌, length, Option, Some}
use Rattle.dump_ports.specs.Tree.{Tree, bytes_at}
use Rattle.dump_files.specs.declared.file.DataFile.{DataFile}
use Rattle.dump_files.specs.declared.stop.DumpStop.{DumpStop}
use Rattle.dump_files.specs.declared.stop.DumpStop.TheVariants.{Missing, TooLarge, ReadFault, BadRows, WriteFault, Memory}
use Rattle.dump_files.specs.Stops.{most}
use Rattle.dump_files.specs.Outlets.{Outside, IsApart, Stands}
use Rattle.dump_plain.specs.Dumps.{Output, after}

-- one of the data files is too large
abbrev pub HasLarge : Tree → List DataFile → Type 0
HasLarge tree [] = ⊥
HasLarge tree (file ∷ needed) = (most < length (bytes_at tree file.name)) ⊎ HasLarge tree needed

-- none of the data files is the one that is written
abbrev pub AreApart : Option (List ℕ) → List DataFile → Type 0
AreApart target [] = Unit {0}
AreApart target (file ∷ needed) = IsApart target file.name × AreApart target needed

-- A row that fails is the one that ends what was due, and a file that is too large is one of those that were needed. A
-- failed call and want of memory may come at any time.
abbrev pub IsDumpStop : Tree → List DataFile → Output → DumpStop → Type 0
IsDumpStop tree needed due (Missing name) = ⊥
IsDumpStop tree needed due (TooLarge n) = (n ≡ most + 1) × HasLarge tree needed
IsDumpStop tree needed due ReadFault = Unit {0}
IsDumpStop tree needed due (BadRows table first) = due.bad ≡ Some (record { table = table; first = first })
IsDumpStop tree needed due WriteFault = Unit {0}
IsDumpStop tree needed due Memory = Unit {0}

-- ---- on the way

-- What was due is a text with so many rows, which is out but for the bytes that wait, and then what is due still.
pub record Goes (target : Option (List ℕ)) (due : Output) (done : List ℕ) (before now : Outside) (waiting : List ℕ) (rows : ℕ) (still : Output) : Type 0 where
  pub text : List ℕ
  pub stands : Stands target (done ++ text) before now waiting
  pub same : due ≡ after text rows still

-- these data files are among those
abbrev pub IsLeft : Tree → Option (List ℕ) → List DataFile → List DataFile → Type 0
IsLeft tree target needed left = (AreApart target needed → AreApart target left) × (HasLarge tree left → HasLarge tree needed)
