-- Files that are written one after another, and what stands where the writing ended on its way.
use Rattle.std.specs.Prelude.{◌≡◌, ◌≢◌, ℕ, List, [], ◌∷◌, ◌++◌, Some}
use Rattle.fmt_directory.specs.Directories.{toc_name, rows_name}
use Rattle.dump_files.specs.declared.file.DataFile.{DataFile}
use Rattle.dump_files.specs.Outlets.{Outside, outputs, IsBegun}

-- a file by its name, and its text
pub record Written : Type 0 where
  pub name : List ℕ
  pub text : List ℕ

abbrev pub saved : List Written → Outside → Outside
saved [] o = o
saved (file ∷ files) o = saved files (outputs (Some file.name) file.text o)

-- the first of these files holds some first part of its text, or is as it was; the others are as they were
abbrev pub IsPart : List Written → Outside → Outside → Type 0
IsPart [] before after = after ≡ before
IsPart (file ∷ later) before after = IsBegun (Some file.name) file.text before after

-- some of these files are whole, the next one is in part or as it was, and the later ones are untouched
pub record PartSaved (files : List Written) (before after : Outside) : Type 0 where
  pub whole : List Written
  pub later : List Written
  pub split : files ≡ whole ++ later
  pub part : IsPart later (saved whole before) after

-- a name is none of the files that a dump into a folder may have
abbrev pub IsBeyond : List ℕ → List ℕ → Type 0
IsBeyond folder name = (name ≢ toc_name folder) × ((id : ℕ) → name ≢ rows_name folder id)

abbrev pub AreBeyond : List ℕ → List DataFile → Type 0
AreBeyond folder [] = Unit {0}
AreBeyond folder (file ∷ needed) = IsBeyond folder file.name × AreBeyond folder needed
