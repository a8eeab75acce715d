-- What a call of the program puts out: a list of outputs in order. And what the outside holds once some of them were put
-- out, whole or in part. What is taken of standard input stands among them, at its place in the order.
use Rattle.std.specs.Prelude.{◌≡◌, ◌++◌, List, [], ◌∷◌, length, drop, Option, option_map, ◌⊎◌}
use Rattle.std.specs.FinMap.{insert}
use Rattle.dump_ports.specs.Tree.{Tree, patched}
use Rattle.cat_model.specs.Values.{Bytes}
use Rattle.dump_outputs.specs.Pieces.{Place, Printed, Stored, Patched, Piece}
use Rattle.saved_folders.specs.Files.{File}

-- What stands outside of the program, as far as each object tells it: the texts of the files, what is left of standard
-- input, what standard output and standard error have taken.
pub record World : Type 0 where
  pub tree : Option Tree
  pub left : Option Bytes
  pub printed : Option Bytes
  pub told : Option Bytes

abbrev pub world : Option Tree → Option Bytes → Option Bytes → Option Bytes → World
world tree left printed told = record { tree = tree; left = left; printed = printed; told = told }

-- a file is made anew and its text added, a text is written over the first bytes of a file, a text is printed, a text is
-- told on standard error; and a text is taken off standard input
pub data Output : Type 0 where
  Stores : Bytes → Bytes → Output
  Patches : Bytes → Bytes → Output
  Writes : Bytes → Output
  Tells : Bytes → Output
  Takes : Bytes → Output

-- the text of an output
abbrev pub text_of : Output → Bytes
text_of (Stores name text) = text
text_of (Patches name text) = text
text_of (Writes text) = text
text_of (Tells text) = text
text_of (Takes text) = text

-- the same output with another text
abbrev pub with_text : Output → Bytes → Output
with_text (Stores name text) other = Stores name other
with_text (Patches name text) other = Patches name other
with_text (Writes text) other = Writes other
with_text (Tells text) other = Tells other
with_text (Takes text) other = Takes other

-- once an output was put out
abbrev pub performed : Output → World → World
performed (Stores name text) w = world (option_map (λ tree. insert tree name text) w.tree) w.left w.printed w.told
performed (Patches name text) w = world (option_map (patched name 0 text) w.tree) w.left w.printed w.told
performed (Writes text) w = world w.tree w.left (option_map (λ printed. printed ++ text) w.printed) w.told
performed (Tells text) w = world w.tree w.left w.printed (option_map (λ told. told ++ text) w.told)
performed (Takes text) w = world w.tree (option_map (λ left. drop (length text) left) w.left) w.printed w.told

-- once all of them were, one after another
abbrev pub all_performed : List Output → World → World
all_performed [] w = w
all_performed (output ∷ outputs) w = all_performed outputs (performed output w)

-- a first part of an output's text was put out
pub record IsBegun (output : Output) (before after : World) : Type 0 where
  pub front : Bytes
  pub rest : Bytes
  pub split : text_of output ≡ front ++ rest
  pub put : after ≡ performed (with_text output front) before

-- nothing of an output was put out, or a first part of its text
abbrev pub IsPart : Output → World → World → Type 0
IsPart output before after = (after ≡ before) ⊎ IsBegun output before after

-- the first of these outputs was put out in part, and the later ones not at all
abbrev pub IsCut : List Output → World → World → Type 0
IsCut [] before after = after ≡ before
IsCut (output ∷ later) before after = IsPart output before after

-- some first outputs are whole, the next one is cut
pub record CutShort (outputs : List Output) (before after : World) : Type 0 where
  pub whole : List Output
  pub later : List Output
  pub split : outputs ≡ whole ++ later
  pub cut : IsCut later (all_performed whole before) after

-- a file that is made
abbrev pub stores : File → Output
stores file = Stores file.name file.text

-- ---- texts that are put where they are asked for

abbrev pub put_at : Place → Bytes → Output
put_at Printed text = Writes text
put_at (Stored name) text = Stores name text
put_at (Patched name) text = Patches name text

abbrev pub puts : Piece → Output
puts piece = put_at piece.place piece.text
