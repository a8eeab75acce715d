-- Whether all of the data files that a dump needs are there and none is too large: else why it isn't begun.
use Rattle.std.specs.Prelude.{◌≡◌, ℕ, ◌&&◌, nat_lt, List, [], ◌∷◌, length, Option, Some, None, is_none, Result, Ok, Err, if◌then◌else◌}
use Rattle.dump_ports.specs.Tree.{Tree, text_at, bytes_at}
use Rattle.dump_files.specs.declared.stop.DumpStop.{DumpStop}
use Rattle.dump_files.specs.declared.stop.DumpStop.TheVariants.{Missing, TooLarge, ReadFault, Memory}
use Rattle.dump_files.specs.declared.file.DataFile.{DataFile}
use Rattle.dump_files.specs.Stops.{most}

abbrev pub missing_by : List ℕ → Option (List ℕ) → Option (List ℕ) → Option (List ℕ)
missing_by name None later = Some name
missing_by name (Some text) later = later

-- the first that is absent
abbrev pub first_missing : Tree → List DataFile → Option (List ℕ)
first_missing tree [] = None
first_missing tree (file ∷ files) = missing_by file.name (text_at tree file.name) (first_missing tree files)

-- the size of the first that is too large
abbrev pub first_large : Tree → List DataFile → Option ℕ
first_large tree [] = None
first_large tree (file ∷ files) = let size = length (bytes_at tree file.name) in if nat_lt most size then Some size else first_large tree files

abbrev pub stop_by : Option (List ℕ) → Option ℕ → Option DumpStop
stop_by (Some name) large = Some (Missing name)
stop_by None (Some size) = Some (TooLarge size)
stop_by None None = None

-- one that is absent comes before one that is too large
unfoldable pub unready : Tree → List DataFile → Option DumpStop
unready tree files = stop_by (first_missing tree files) (first_large tree files)

-- ---- answers

abbrev pub IsDue : Option DumpStop → DumpStop → Type 0
IsDue due ReadFault = Unit {0}
IsDue due Memory = Unit {0}
IsDue due stop = due ≡ Some stop

-- the answer is the one that is due, or a call failed, or memory ran out
abbrev pub GivesReady : {X : Type 0} → Result X DumpStop → Option DumpStop → Type 0
GivesReady (Ok x) due = due ≡ None
GivesReady (Err stop) due = IsDue due stop

-- ---- one file

-- the first size that is too large, with one more
abbrev pub larger : Option ℕ → ℕ → Option ℕ
larger so_far size = if is_none so_far && nat_lt most size then Some size else so_far

-- why a file has no size
abbrev pub IsNoSize : List ℕ → Option (List ℕ) → DumpStop → Type 0
IsNoSize name text (Missing path) = (path ≡ name) × (text ≡ None)
IsNoSize name text ReadFault = Unit {0}
IsNoSize name text Memory = Unit {0}
IsNoSize name text stop = ⊥
