-- Files that a folder holds.
use Rattle.std.specs.Prelude.{◌≡◌, ℕ, ◌+◌, List, [], ◌∷◌, length, Some}
use Rattle.std.specs.List.{AllByRecursion}
use Rattle.dump_ports.specs.Tree.{Tree, text_at}
use Rattle.dump_directory.specs.Files.{Written}

-- a tree holds these files, each with its text
abbrev pub AreStored : Tree → List Written → Type 0
AreStored tree files = AllByRecursion (λ (file : Written). text_at tree file.name ≡ Some file.text) files

-- how many bytes files have together
abbrev pub size_of : List Written → ℕ
size_of [] = 0
size_of (file ∷ files) = length file.text + size_of files
