-- Where a dump is written: a file, whose name is told, or standard output where none is; and what stands there once bytes
-- were put out, all of them or some first part.
use Rattle.std.specs.Prelude.{◌≡◌, ◌≢◌, ◌⊎◌, ℕ, List, ◌++◌, Option, Some, None, option_map, Result}
use Rattle.std.specs.FinMap.{insert}
use Rattle.dump_ports.specs.Tree.{Tree, bytes_at}
use Rattle.dump_files.specs.declared.stop.DumpStop.{DumpStop}
use Rattle.dump_files.specs.Stops.{CountsWrite}

-- what the files hold and what was written to standard output, where the objects tell it
pub record Outside : Type 0 where
  pub tree : Option Tree
  pub written : Option (List ℕ)

abbrev pub outside : Option Tree → Option (List ℕ) → Outside
outside tree written = record { tree = tree; written = written }

-- these bytes are put out: a file holds them alone, standard output has them behind what was written
abbrev pub outputs : Option (List ℕ) → List ℕ → Outside → Outside
outputs None bytes o = outside o.tree (option_map (λ text. text ++ bytes) o.written)
outputs (Some name) bytes o = outside (option_map (λ tree. insert tree name bytes) o.tree) o.written

-- some first part of the bytes is put out
abbrev pub IsCut : Option (List ℕ) → List ℕ → Outside → Outside → Type 0
IsCut target bytes before after = (part : List ℕ) × (rest : List ℕ) × (bytes ≡ part ++ rest) × (after ≡ outputs target part before)

-- nothing changed, or some first part of the bytes is put out
abbrev pub IsBegun : Option (List ℕ) → List ℕ → Outside → Outside → Type 0
IsBegun target bytes before after = (after ≡ before) ⊎ IsCut target bytes before after

-- the counts of write faults of files and of standard output: where it is written to, and the other stays
abbrev pub CountsPut : {X : Type 0} → Option (List ℕ) → Result X DumpStop → ℕ → ℕ → ℕ → ℕ → Type 0
CountsPut None result files files' out out' = (files' ≡ files) × CountsWrite result out out'
CountsPut (Some name) result files files' out out' = CountsWrite result files files' × (out' ≡ out)

-- ---- behind bytes that wait

-- this text was put out but for its last bytes, which wait
pub record Stands (target : Option (List ℕ)) (text : List ℕ) (before now : Outside) (waiting : List ℕ) : Type 0 where
  pub done : List ℕ
  pub split : text ≡ done ++ waiting
  pub is : now ≡ outputs target done before

-- ---- what is read while a dump is written

-- files are told, and one has this text; an absent one reads as none
pub record Holds (tree : Option Tree) (name text : List ℕ) : Type 0 where
  pub told : Tree
  pub is : tree ≡ Some told
  pub bytes : bytes_at told name ≡ text

-- a file isn't the one that is written
abbrev pub IsApart : Option (List ℕ) → List ℕ → Type 0
IsApart None name = Unit {0}
IsApart (Some target) name = target ≢ name
