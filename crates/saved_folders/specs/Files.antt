-- Files that are written one after another: the tree once they are, and what stands where the writing ended on its way.
use Rattle.std.specs.Prelude.{◌≡◌, List, [], ◌∷◌, ◌++◌, Option, option_map}
use Rattle.std.specs.FinMap.{insert}
use Rattle.dump_ports.specs.Tree.{Tree, TakesPrefix}
use Rattle.cat_model.specs.Values.{Bytes}

-- a file by its name, and its text
pub record File : Type 0 where
  pub name : Bytes
  pub text : Bytes

-- the tree once these files are written
abbrev pub saved : List File → Tree → Tree
saved [] tree = tree
saved (file ∷ files) tree = saved files (insert tree file.name file.text)

-- the first of these files holds some first part of its text, or is as it was; the others are as they were
abbrev pub IsCut : List File → Option Tree → Option Tree → Type 0
IsCut [] before after = after ≡ before
IsCut (file ∷ later) before after = TakesPrefix (λ text tree. insert tree file.name text) file.text before after

-- The writing of these files ended on its way: some are whole, the next one holds a first part of its text or is as it
-- was, and the later ones are untouched.
pub record PartSaved (files : List File) (before after : Option Tree) : Type 0 where
  pub whole : List File
  pub later : List File
  pub split : files ≡ whole ++ later
  pub cut : IsCut later (option_map (saved whole) before) after
